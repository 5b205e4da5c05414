pub mod Channel
pub mod Named
pub mod Fitting
