pub mod Word
pub mod Four
pub mod Calls
pub mod Fetch
