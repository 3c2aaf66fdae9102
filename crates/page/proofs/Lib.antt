pub mod Givens
pub mod Vertices
pub mod Judging
pub mod Loading
pub mod Contained
pub mod Opening
