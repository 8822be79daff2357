mod Apart
mod Bytes
pub mod Clean
pub mod Plain
mod Seen
mod Steps
