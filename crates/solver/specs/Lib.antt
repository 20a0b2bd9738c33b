pub use Rattle.flow_evaluator.specs.tree_laws as tree_laws
pub use Rattle.flow_evaluator.specs.pns_problem as pns_problem
pub use Rattle.flow_evaluator.specs.pgraph as pgraph
pub use Rattle.flow_evaluator.specs.neutral_extension as neutral_extension
pub use Rattle.flow_evaluator.specs.branch_tree as branch_tree
pub use Rattle.flow_evaluator.specs.node_evaluation as node_evaluation
pub use Rattle.rank_search.specs.abb_search as abb_search
pub use Rattle.rank_search.specs as rank_search
