pub mod Decimals
pub mod Pieces
pub mod Places
pub mod Stretches
