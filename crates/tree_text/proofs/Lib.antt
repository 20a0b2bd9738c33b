pub mod Appending
pub mod Cited
pub mod Printed
pub use Rattle.tree_text_rules.proofs.number_sets as number_sets
