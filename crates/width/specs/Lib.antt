pub mod Width
pub mod Choice
