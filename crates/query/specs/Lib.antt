pub mod Ask
pub mod Block
pub mod Accepted
