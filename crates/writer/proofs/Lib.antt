pub mod Stepping
pub mod Determined
pub mod Ends
pub mod Ways
pub mod Paging
pub mod Taken
pub mod Running
