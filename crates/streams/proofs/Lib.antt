pub mod LongTexts
pub mod Streams
