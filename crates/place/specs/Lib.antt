pub mod Seek
pub mod Onward
pub mod Nth
pub mod Row
pub mod Span
pub mod Rows
