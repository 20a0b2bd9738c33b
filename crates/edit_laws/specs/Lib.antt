pub mod Laws
pub mod ScriptLaws
pub mod MigrationLaws
pub use Rattle.edit_rules.specs.number_sets as number_sets
pub use Rattle.edit_rules.specs.problem_rules as problem_rules
pub use Rattle.edit_rules.specs as edit_rules
