pub mod MachineLaws
pub mod TallyLaws
pub mod LoopLaws
pub mod PageLaws
pub mod Figures
