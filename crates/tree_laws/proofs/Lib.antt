pub mod AcceptedLemmas
pub mod ApartLemmas
pub mod CappedLemmas
pub mod Cited
pub mod CountLemmas
pub mod CoverLemmas
pub mod EmptyLemmas
mod ExampleLeaf
pub mod FaultLemmas
pub mod FewLemmas
mod HeadFaultLemmas
mod HeadedLemmas
pub mod KnownLemmas
pub mod LeafLemmas
pub mod LeanLemmas
pub mod LowerLemmas
pub mod OneLemmas
pub mod OpenLemmas
pub mod SidesLemmas
pub mod TreeLemmas
pub mod UpLemmas
pub mod WayLemmas
pub use Rattle.tree_rules.proofs.number_sets as number_sets
pub use Rattle.tree_rules.proofs.integer_laws as integer_laws
pub use Rattle.tree_rules.proofs.pns_rules as pns_rules
pub use Rattle.tree_rules.proofs.flow_rules as flow_rules
