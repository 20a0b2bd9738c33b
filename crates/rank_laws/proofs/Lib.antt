pub mod AlternativeLemmas
pub mod Cited
pub mod FaultLemmas
pub mod NetworkLemmas
pub mod RankedLemmas
pub use Rattle.rank_rules.proofs.number_sets as number_sets
pub use Rattle.rank_rules.proofs.pns_rules as pns_rules
pub use Rattle.tree_laws.proofs as tree_laws
