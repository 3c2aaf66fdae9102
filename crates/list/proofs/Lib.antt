pub mod Asked
pub mod Lines
pub mod Listings
pub mod Rowing
pub mod Searched
pub mod Wholes
pub mod Worked
