pub mod Measured
pub mod Stepping
