pub mod DesignLaws
pub mod Laws
pub use Rattle.plan_rules.specs.number_sets as number_sets
pub use Rattle.plan_rules.specs.problem_rules as problem_rules
pub use Rattle.plan_rules.specs.edit_rules as edit_rules
pub use Rattle.plan_rules.specs.flow_rules as flow_rules
pub use Rattle.plan_rules.specs.tree_rules as tree_rules
pub use Rattle.plan_rules.specs as plan_rules
