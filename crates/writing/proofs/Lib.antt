-- What belongs to no one function.
pub mod Spelling
pub mod Room
pub mod Digits
pub mod Fitting
pub mod CountDigits
pub mod Fields
pub mod UsefulFields
pub mod UsefulReads
pub mod Deliveries
pub mod Printable
