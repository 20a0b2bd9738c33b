pub mod Cited
pub mod ClaimLemmas
pub mod CostLemmas
pub mod ForestLemmas
pub mod GraftLemmas
pub mod GraftLists
pub mod Growing
pub mod InTurn
pub mod LaidNodes
pub mod MergeLemmas
mod Once
pub mod OpenLemmas
pub mod OrderLemmas
mod Reading
pub mod ReorderLemmas
pub mod SoundLemmas
pub mod SpliceLemmas
mod Texts
pub mod Tokens
pub use Rattle.tree_text_laws.proofs.number_sets as number_sets
pub use Rattle.tree_text_laws.proofs.text_laws as text_laws
pub use Rattle.cert_check.proofs.tree_laws as tree_laws
pub use Rattle.tree_text_laws.proofs.pns_problem as pns_problem
pub use Rattle.cert_check.proofs as cert_check
