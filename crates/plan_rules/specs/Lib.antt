pub mod Design
pub mod Expanded
pub mod Folded
pub mod Least
pub mod Line
pub mod Meaning
pub mod Plan
pub mod Read
pub use Rattle.edit_rules.specs.number_sets as number_sets
pub use Rattle.tree_rules.specs.integer_laws as integer_laws
pub use Rattle.edit_rules.specs.problem_rules as problem_rules
pub use Rattle.edit_rules.specs.text_rules as text_rules
pub use Rattle.tree_rules.specs.pns_rules as pns_rules
pub use Rattle.edit_rules.specs as edit_rules
pub use Rattle.tree_rules.specs.flow_rules as flow_rules
pub use Rattle.tree_rules.specs as tree_rules
