pub mod Layout
pub mod Head
pub mod Next
pub mod Frame
pub mod Ahead
pub mod Whole
