pub mod Chains
pub mod Above
pub mod NeedParts
pub mod Grounds
pub mod Texts
pub mod PrintableWords
