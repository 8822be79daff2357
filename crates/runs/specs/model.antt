-- What a run is, and which runs a system has: in the order in which to read.
pub mod Jobs
pub mod Accesses
pub mod Schedule
pub mod Cache
pub mod Legal
