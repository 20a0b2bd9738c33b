pub mod Cited
pub mod Claims
mod Ends
mod Fronts
mod HeadedText
mod Heads
pub mod Nodes
pub mod PartTexts
pub mod Tails
mod Takings
mod WholeText
pub mod ClaimLines
pub mod Codes
mod Columns
pub mod Decimals
mod Names
pub mod NodeLines
pub mod Pieces
mod Places
pub mod Said
pub mod TailLines
pub use Rattle.tree_text_rules.proofs.number_sets as number_sets
pub use Rattle.tree_text_rules.proofs.integer_laws as integer_laws
pub use Rattle.tree_text_rules.proofs.pns_rules as pns_rules
pub use Rattle.text_laws.proofs as text_laws
pub use Rattle.branch_tree.proofs.pns_problem as pns_problem
