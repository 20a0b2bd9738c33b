pub mod BestLemmas
pub mod BranchChoiceLemmas
pub mod ChildLemmas
pub mod ChoiceLemmas
pub mod Cited
pub mod HandLemmas
pub mod KnownLemmas
pub mod LookLemmas
pub mod OptionLemmas
pub mod OptionWalk
pub mod SolvedLemmas
pub use Rattle.structure_list.proofs.number_sets as number_sets
pub use Rattle.structure_list.proofs.pns_rules as pns_rules
pub use Rattle.structure_list.proofs.flow_rules as flow_rules
pub use Rattle.neutral_extension.proofs.link_lists as link_lists
pub use Rattle.search_tree.proofs as search_tree
