pub mod Description
pub mod Laws
