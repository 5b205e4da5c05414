pub mod View
pub mod Outcome
pub mod Events
pub mod Accepted
pub mod Sealing
pub mod Laws
