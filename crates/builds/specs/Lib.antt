pub mod Fates
pub mod Folders
pub mod Runs
