pub mod Authentication
pub mod Guarded
