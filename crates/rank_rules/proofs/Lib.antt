mod Plant
mod WorkedLists
mod WorkedTexts
pub use Rattle.tree_text_rules.proofs.number_sets as number_sets
pub use Rattle.tree_text_rules.proofs.integer_laws as integer_laws
pub use Rattle.tree_text_rules.proofs.problem_rules as problem_rules
pub use Rattle.tree_text_rules.proofs.pns_rules as pns_rules
pub use Rattle.tree_text_rules.proofs.flow_rules as flow_rules
