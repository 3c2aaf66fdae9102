pub mod File
pub mod Check
