pub mod Headroom
