pub mod Cmac
pub mod Laws
pub mod Fed
