pub mod Fields
pub mod Printing
pub mod Prints
pub use Rattle.tree_text_rules.specs.number_sets as number_sets
pub use Rattle.tree_text_rules.specs.problem_rules as problem_rules
pub use Rattle.tree_text_rules.specs.text_rules as text_rules
pub use Rattle.tree_text_rules.specs.pns_rules as pns_rules
pub use Rattle.tree_text_rules.specs.tree_rules as tree_rules
pub use Rattle.tree_text_rules.specs as tree_text_rules
pub use Rattle.pns_io.specs as pns_io
pub use Rattle.flow_program.specs.pgraph as pgraph
pub use Rattle.branch_tree.specs as branch_tree
