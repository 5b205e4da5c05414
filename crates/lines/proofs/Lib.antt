pub mod Characters
pub mod Laws
pub mod Sofar
pub mod FrameLaws
