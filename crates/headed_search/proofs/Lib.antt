pub mod CapLemmas
pub mod LeanLemmas
pub mod SetLemmas
