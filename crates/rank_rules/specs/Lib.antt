pub mod Headed
pub mod Alternatives
pub mod Leaf
pub mod Marked
pub mod Networks
pub mod Opened
pub mod Ranked
pub mod Read
pub mod Spelling
pub mod Text
pub use Rattle.tree_text_rules.specs.number_sets as number_sets
pub use Rattle.tree_text_rules.specs.integer_laws as integer_laws
pub use Rattle.tree_text_rules.specs.problem_rules as problem_rules
pub use Rattle.tree_text_rules.specs.text_rules as text_rules
pub use Rattle.tree_text_rules.specs.pns_rules as pns_rules
pub use Rattle.tree_text_rules.specs.edit_rules as edit_rules
pub use Rattle.tree_text_rules.specs.flow_rules as flow_rules
pub use Rattle.tree_text_rules.specs.tree_rules as tree_rules
pub use Rattle.tree_text_rules.specs as tree_text_rules
