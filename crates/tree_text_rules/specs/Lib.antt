pub mod Graft
pub mod Line
pub mod LineRead
pub mod Merge
pub mod OpenLeaves
pub mod Part
pub mod PartRead
pub mod PartSpelling
pub mod Read
pub mod Several
pub mod Spelling
pub mod Token
pub use Rattle.edit_rules.specs.number_sets as number_sets
pub use Rattle.tree_rules.specs.integer_laws as integer_laws
pub use Rattle.edit_rules.specs.problem_rules as problem_rules
pub use Rattle.edit_rules.specs.text_rules as text_rules
pub use Rattle.tree_rules.specs.pns_rules as pns_rules
pub use Rattle.edit_rules.specs as edit_rules
pub use Rattle.tree_rules.specs.flow_rules as flow_rules
pub use Rattle.tree_rules.specs as tree_rules
