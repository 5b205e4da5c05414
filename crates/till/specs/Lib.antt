pub mod Till
pub mod Laws
pub mod Meets
