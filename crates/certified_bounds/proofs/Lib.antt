pub mod Cited
pub mod FractionLemmas
pub mod BoundLemmas
