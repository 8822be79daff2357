mod Lines
pub mod Lists
pub mod Orders
