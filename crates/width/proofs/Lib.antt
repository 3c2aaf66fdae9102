pub mod Least
pub mod Sizes
