pub mod Capped
pub mod CappingLaws
pub mod HeadLaws
pub mod Laws
pub mod Recharged
pub use Rattle.tree_rules.specs.number_sets as number_sets
pub use Rattle.tree_rules.specs.integer_laws as integer_laws
pub use Rattle.tree_rules.specs.problem_rules as problem_rules
pub use Rattle.tree_rules.specs.pns_rules as pns_rules
pub use Rattle.tree_rules.specs.flow_rules as flow_rules
pub use Rattle.tree_rules.specs as tree_rules
