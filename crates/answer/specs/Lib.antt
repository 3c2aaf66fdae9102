pub mod Table
pub mod Limits
pub mod Axis
pub mod Refusal
pub mod Outcome
pub mod Rule
pub mod Lent
pub mod All
