pub mod Rank
pub mod Boxes
pub mod Span
pub mod Forms
pub mod FirstMet
