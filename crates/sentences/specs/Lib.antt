pub mod Phrases
pub mod Sentences
pub mod Sums
pub mod Explained
