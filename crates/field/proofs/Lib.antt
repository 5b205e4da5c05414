pub mod Sums
pub mod Laws
pub mod Inverses
pub mod Inverse
