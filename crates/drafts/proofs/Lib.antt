pub mod Steps
pub mod Lettered
