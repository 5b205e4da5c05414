pub mod Purse
pub mod Guarded
