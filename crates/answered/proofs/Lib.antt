pub mod Lines
pub mod Fronts
pub mod Claims
pub mod PrintableTexts
