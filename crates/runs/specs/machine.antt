-- A machine that makes a legal run of any jobs that the system allows, so that the model is not empty: in the order in which to read.
pub mod Chooser
pub mod Programs
pub mod Turns
