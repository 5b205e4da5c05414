pub mod Effects
pub mod Guarded
pub mod Laws
