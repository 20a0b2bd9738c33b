pub mod Cited
pub mod DecideLemmas
mod ExampleListing
mod ExampleProblem
pub mod ListingLemmas
pub mod OptionLemmas
pub mod OrderLemmas
pub mod PathLemmas
pub mod ProperLemmas
mod SmallShapes
mod SortLemmas
pub mod StepLemmas
pub mod StructureLemmas
pub mod StructureList
pub mod TraceLemmas
pub use Rattle.number_sets.proofs as number_sets
pub use Rattle.problem_rules.proofs as problem_rules
