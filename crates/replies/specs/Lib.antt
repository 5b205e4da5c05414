pub mod Replies
pub mod Guarded
