pub mod Moved
pub mod Relations
