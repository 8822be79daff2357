pub mod Replay
pub mod Tally
pub mod TickLines
