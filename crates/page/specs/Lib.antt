pub mod Scratched
pub mod Contents
pub mod Loaded
pub mod Opened
