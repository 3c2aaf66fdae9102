pub mod Filling
pub mod Opens
pub mod Fetching
pub mod Accepted
pub mod Determined
