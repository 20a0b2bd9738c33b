pub mod Laws
pub use Rattle.report_rules.specs.number_sets as number_sets
pub use Rattle.report_rules.specs.integer_laws as integer_laws
pub use Rattle.report_rules.specs.problem_rules as problem_rules
pub use Rattle.report_rules.specs.text_rules as text_rules
pub use Rattle.report_rules.specs.pns_rules as pns_rules
pub use Rattle.report_rules.specs.flow_rules as flow_rules
pub use Rattle.report_rules.specs.tree_rules as tree_rules
pub use Rattle.report_rules.specs.tree_text_rules as tree_text_rules
pub use Rattle.report_rules.specs as report_rules
