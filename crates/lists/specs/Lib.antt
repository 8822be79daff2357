pub mod Lists
pub mod Together
