pub mod CertWalkLemmas
pub mod ChargeLemmas
pub mod Cited
pub mod CoverLemmas
pub mod EitherLemmas
pub mod EndLemmas
pub mod HeadLemmas
pub mod HeadedLemmas
pub mod KnownLemmas
pub mod LeafLemmas
pub mod LineLemmas
pub mod NodeLemmas
pub mod OwnLemmas
pub mod RefusalLemmas
pub mod RowLemmas
pub mod SetLemmas
pub mod StepLemmas
pub mod TrimLemmas
pub mod TurnLemmas
pub mod UseLemmas
pub mod WalkLemmas
pub use Rattle.tree_text_rules.proofs.integer_laws as integer_laws
pub use Rattle.tree_text_rules.proofs.pns_rules as pns_rules
pub use Rattle.tree_text_rules.proofs.flow_rules as flow_rules
pub use Rattle.tree_laws.proofs as tree_laws
pub use Rattle.charges.proofs.pns_problem as pns_problem
pub use Rattle.charges.proofs.pgraph as pgraph
pub use Rattle.charges.proofs.structure_list as structure_list
pub use Rattle.charges.proofs.flow_program as flow_program
