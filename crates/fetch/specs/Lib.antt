pub mod Fetch
pub mod Ready
