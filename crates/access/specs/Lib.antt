pub mod Rights
pub mod Doors
