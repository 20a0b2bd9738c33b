pub mod Cited
pub mod NameLists
pub mod Numerals
pub mod Seconds
pub mod WholePages
pub mod Within
mod WorkedWords
pub use Rattle.studio_rules.proofs as studio_rules
