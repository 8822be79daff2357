pub mod Multiples
pub mod Charges
pub mod Bound
pub mod Hyperperiod
pub mod Verdicts
