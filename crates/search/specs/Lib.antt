pub mod Search
pub mod Ascending
pub mod Listed
pub mod Alike
pub mod Flags
pub mod Met
pub mod Skipped
pub mod Ready
