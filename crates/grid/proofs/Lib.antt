pub mod Sizes
pub mod Casts
pub mod OnGrid
pub mod Digits
pub mod Turns
pub mod Worked
