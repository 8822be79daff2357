pub mod Shapes
pub mod Texts
