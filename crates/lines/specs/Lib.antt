pub mod Lines
pub mod Frames
pub mod Laws
pub mod FrameLaws
pub mod Sofar
