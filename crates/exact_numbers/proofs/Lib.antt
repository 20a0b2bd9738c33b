pub mod Cited
pub mod Division
pub mod Entries
pub mod EuclidLemmas
pub mod FractionLemmas
pub mod LowestLemmas
pub mod NumberLemmas
pub mod RangeLemmas
pub mod ShareLemmas
pub mod Unique
pub use Rattle.integer_laws.proofs as integer_laws
