-- What belongs to no one function.
pub mod HexLaws
mod ShiftLaws
pub mod SetLaws
pub mod WordLaws
pub mod BitLaws
pub mod FieldLaws
pub mod CountLaws
pub mod LevelLaws
pub mod DigitLaws
pub mod UsefulLaws
pub mod StackLaws
mod Figures
