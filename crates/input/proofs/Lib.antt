pub mod Steps
pub mod Withins
