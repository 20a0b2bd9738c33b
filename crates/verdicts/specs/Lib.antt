pub mod Lower
pub mod RankUnjudged
pub mod Unjudged
pub use Rattle.report_rules.specs.number_sets as number_sets
pub use Rattle.report_rules.specs.problem_rules as problem_rules
pub use Rattle.report_rules.specs.text_rules as text_rules
pub use Rattle.report_rules.specs.pns_rules as pns_rules
pub use Rattle.report_rules.specs.flow_rules as flow_rules
pub use Rattle.report_rules.specs.tree_rules as tree_rules
pub use Rattle.report_rules.specs.tree_text_rules as tree_text_rules
pub use Rattle.report_rules.specs as report_rules
pub use Rattle.rank_check.specs.rank_laws as rank_laws
pub use Rattle.tree_parts.specs.pns_problem as pns_problem
pub use Rattle.tree_parts.specs.pgraph as pgraph
pub use Rattle.tree_parts.specs.branch_tree as branch_tree
pub use Rattle.tree_parts.specs.tree_text_laws as tree_text_laws
pub use Rattle.tree_parts.specs.tree_reading as tree_reading
pub use Rattle.tree_parts.specs.tree_text as tree_text
pub use Rattle.tree_parts.specs.cert_check as cert_check
pub use Rattle.tree_parts.specs as tree_parts
