pub mod Endings
pub mod Answered
