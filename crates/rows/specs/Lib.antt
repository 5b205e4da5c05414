pub mod State
pub mod Rows
pub mod Laws
pub mod Doors
pub mod Inside
pub mod Openings
