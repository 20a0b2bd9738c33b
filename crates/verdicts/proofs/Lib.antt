pub mod HeadedLemmas
pub mod LowLemmas
pub mod LowerLemmas
pub mod PlainLemmas
pub use Rattle.report_rules.proofs.number_sets as number_sets
pub use Rattle.tree_parts.proofs.text_laws as text_laws
pub use Rattle.rank_check.proofs.rank_laws as rank_laws
pub use Rattle.tree_parts.proofs.pns_problem as pns_problem
pub use Rattle.tree_parts.proofs as tree_parts
