pub mod Settling
pub mod Entries
pub mod Slots
pub mod Laws
pub mod FitLaws
pub mod Former
pub mod Wear
