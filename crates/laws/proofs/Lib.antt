-- What belongs to no one function.
pub mod PermutationLaws
pub mod ReturnLaws
pub mod AnyOrder
mod Examples
pub mod AnyWorker
mod LinesInOrder
pub mod ExplanationLaws
pub mod FigureLaws
pub mod OrderLaws
pub mod SolutionLaws
pub mod TextLaws
pub mod AddedTables
pub mod AddedTexts
pub mod PutLaws
pub mod SameExplained
pub mod TwoTexts
pub mod DominanceLaws
pub mod ClaimLaws
