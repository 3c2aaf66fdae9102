pub mod Rests
pub mod Checks
