pub mod Kinds
pub mod Block
