pub mod Body
pub mod Typed
pub mod Page
pub mod Ready
pub mod Written
