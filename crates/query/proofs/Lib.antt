pub mod Touching
pub mod Blocks
pub mod Asking
pub mod Good
pub mod Spots
pub mod Written
pub mod Refusals
pub mod Fronting
