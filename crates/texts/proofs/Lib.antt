-- What belongs to no one function.
pub mod Left
pub mod Scan
pub mod Parts
pub mod LineSteps
pub mod First
pub mod Found
pub mod Numbers
pub mod FieldScan
pub mod Spelling
pub mod Shapes
pub mod RowLaws
pub mod NumberLaws
