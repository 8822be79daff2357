-- What belongs to no one function.
pub mod FindingLaws
pub mod ListLaws
pub mod LineLaws
pub mod Figures
