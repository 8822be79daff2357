pub mod Cut
pub mod Bytes
pub mod Fields
pub mod Faults
pub mod Numbers
pub mod Rows
