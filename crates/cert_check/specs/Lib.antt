pub mod Bare
pub mod Headed
pub mod Known
pub mod Lines
pub mod OpenLeaves
pub mod Refusals
pub mod Shown
pub mod Subtrees
pub mod Trims
pub mod Uses
pub mod View
pub mod Visits
pub use Rattle.tree_text_rules.specs.integer_laws as integer_laws
pub use Rattle.tree_text_rules.specs.pns_rules as pns_rules
pub use Rattle.tree_text_rules.specs.flow_rules as flow_rules
pub use Rattle.tree_text_rules.specs.tree_rules as tree_rules
pub use Rattle.tree_text_rules.specs as tree_text_rules
pub use Rattle.tree_laws.specs as tree_laws
pub use Rattle.charges.specs.unit_sets as unit_sets
pub use Rattle.charges.specs.exact_numbers as exact_numbers
pub use Rattle.charges.specs.pns_problem as pns_problem
pub use Rattle.charges.specs.pgraph as pgraph
pub use Rattle.charges.specs.structure_list as structure_list
pub use Rattle.charges.specs.flow_program as flow_program
pub use Rattle.branch_tree.specs as branch_tree
