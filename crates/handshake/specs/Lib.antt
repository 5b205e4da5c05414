pub mod Handshake
pub mod Guarded
