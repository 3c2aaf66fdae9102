pub mod Outline
pub mod Rules
pub mod Ready
pub mod Parts
pub mod Which
pub mod Polygons
