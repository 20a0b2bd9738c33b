pub mod Fits
pub mod Laws
pub mod Lines
pub mod Codes
pub mod LineFits
pub mod LineLaws
pub use Rattle.tree_text_rules.specs.number_sets as number_sets
pub use Rattle.tree_text_rules.specs.integer_laws as integer_laws
pub use Rattle.tree_text_rules.specs.problem_rules as problem_rules
pub use Rattle.tree_text_rules.specs.text_rules as text_rules
pub use Rattle.tree_text_rules.specs.pns_rules as pns_rules
pub use Rattle.tree_text_rules.specs.flow_rules as flow_rules
pub use Rattle.tree_text_rules.specs.tree_rules as tree_rules
pub use Rattle.tree_text_rules.specs as tree_text_rules
pub use Rattle.branch_tree.specs.unit_sets as unit_sets
pub use Rattle.branch_tree.specs.pns_problem as pns_problem
pub use Rattle.branch_tree.specs.pgraph as pgraph
pub use Rattle.branch_tree.specs as branch_tree
