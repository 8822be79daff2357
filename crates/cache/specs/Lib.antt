pub mod Hex
pub mod Sets
pub mod Words
pub mod Field
pub mod Stored
pub mod Counts
pub mod Levels
pub mod UsefulField
