pub mod Answers
pub mod Scratch
pub mod Sum
