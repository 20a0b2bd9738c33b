pub mod Answers
pub mod Charging
pub mod Evaluating
pub mod Laws
pub use Rattle.dual_simplex.specs.problem_rules as problem_rules
pub use Rattle.dual_simplex.specs.pns_rules as pns_rules
pub use Rattle.node_evaluation.specs.tree_rules as tree_rules
pub use Rattle.node_evaluation.specs.tree_laws as tree_laws
pub use Rattle.dual_simplex.specs.exact_numbers as exact_numbers
pub use Rattle.dual_simplex.specs.pns_problem as pns_problem
pub use Rattle.dual_simplex.specs.pgraph as pgraph
pub use Rattle.node_evaluation.specs.neutral_extension as neutral_extension
pub use Rattle.node_evaluation.specs.branch_tree as branch_tree
pub use Rattle.node_evaluation.specs as node_evaluation
