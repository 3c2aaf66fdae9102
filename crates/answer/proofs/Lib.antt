pub mod Outcomes
pub mod Both
pub mod Determined
pub mod Rules
pub mod Orders
pub mod Alls
pub mod Rests
