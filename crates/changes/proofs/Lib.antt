-- What belongs to no one function.
pub mod Below
pub mod Levels
pub mod Places
pub mod Relation
