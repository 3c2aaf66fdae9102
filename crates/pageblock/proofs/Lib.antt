pub mod Passing
pub mod Sizes
pub mod Storing
pub mod Blocks
pub mod Standing
pub mod Places
pub mod ReadBack
pub mod Plans
