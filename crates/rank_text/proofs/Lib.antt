pub mod OpenBytes
mod OpenLines
mod Printing
mod Shapes
mod Texts
mod Together
pub use Rattle.tree_text_laws.proofs.pns_problem as pns_problem
pub use Rattle.tree_text.proofs as tree_text
