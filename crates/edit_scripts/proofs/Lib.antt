pub mod Cited
mod Least
mod ScriptLines
mod Doubles
mod BothSides
mod TermsRead
mod TokenCounts
mod Reading
pub mod Clear
pub mod ReadIsFormed
mod Printing
