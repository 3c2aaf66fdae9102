pub mod Types
pub mod Parts
