pub mod Journal
pub mod Ring
pub mod View
pub mod Fit
pub mod Laws
pub mod Slots
pub mod Wear
pub mod Former
