pub mod TableRuns
pub mod Bounds
pub mod Texts
pub mod Measured
