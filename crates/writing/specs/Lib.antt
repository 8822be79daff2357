pub mod Text
pub mod Marks
pub mod Delivery
pub mod Error
pub mod Printable
