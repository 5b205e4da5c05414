pub mod Rules
pub mod Parts
pub mod Laws
