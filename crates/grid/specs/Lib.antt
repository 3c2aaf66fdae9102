pub mod Grid
pub mod Turn
