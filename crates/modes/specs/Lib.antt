pub mod Modes
pub mod Laws
