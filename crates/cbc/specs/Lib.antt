pub mod Cbc
pub mod Laws
