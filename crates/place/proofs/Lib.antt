pub mod Seeking
pub mod Onwards
pub mod Nth
pub mod Spans
pub mod Tables
pub mod Places
