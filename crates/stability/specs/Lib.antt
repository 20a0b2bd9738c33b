pub mod Case
pub mod Desk
pub mod Refusal
pub mod Rise
pub mod Side
pub use Rattle.stability_laws.specs.number_sets as number_sets
pub use Rattle.stability_laws.specs.problem_rules as problem_rules
pub use Rattle.stability_laws.specs.text_rules as text_rules
pub use Rattle.stability_laws.specs.pns_rules as pns_rules
pub use Rattle.stability_laws.specs.flow_rules as flow_rules
pub use Rattle.stability_laws.specs.tree_rules as tree_rules
pub use Rattle.stability_laws.specs.tree_text_rules as tree_text_rules
pub use Rattle.stability_laws.specs.report_rules as report_rules
pub use Rattle.solver.specs.tree_laws as tree_laws
pub use Rattle.stability_laws.specs as stability_laws
pub use Rattle.solver.specs.pns_problem as pns_problem
pub use Rattle.solver.specs.pgraph as pgraph
pub use Rattle.solver.specs.branch_tree as branch_tree
pub use Rattle.solver.specs.node_evaluation as node_evaluation
pub use Rattle.solver.specs.abb_search as abb_search
