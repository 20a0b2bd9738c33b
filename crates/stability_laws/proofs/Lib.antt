pub mod Cited
pub mod LineLemmas
pub mod ValuedLemmas
pub mod NetLemmas
pub mod RiseLemmas
pub mod BestLemmas
pub use Rattle.report_rules.proofs.number_sets as number_sets
pub use Rattle.report_rules.proofs.integer_laws as integer_laws
