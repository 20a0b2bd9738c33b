pub mod Cited
pub mod Counted
pub mod FoundTexts
mod Searched
pub mod Solved
pub mod Summaries
mod Texts
pub use Rattle.command_files.proofs as command_files
