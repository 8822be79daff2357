pub mod Lists
pub mod Findings
pub mod Told
pub mod Figures
