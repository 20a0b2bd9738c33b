pub mod Apart
pub mod Front
pub mod Gives
pub mod Joined
pub mod Place
pub mod Said
pub mod Taken
pub mod Tells
pub mod View
pub use Rattle.tree_text_rules.specs.tree_rules as tree_rules
pub use Rattle.tree_text_rules.specs as tree_text_rules
pub use Rattle.text_lines.specs as text_lines
pub use Rattle.branch_tree.specs.pns_problem as pns_problem
pub use Rattle.branch_tree.specs as branch_tree
