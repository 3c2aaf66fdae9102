pub mod Sums
pub mod Agreeing
pub mod Tabled
pub mod Passed
pub mod Tested
