-- What belongs to no one function.
pub mod Counts
pub mod Blockers
pub mod TableBounds
pub mod TextBounds
pub mod TableRuns
pub mod Measured
