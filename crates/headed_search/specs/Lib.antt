pub mod Lean
pub use Rattle.tree_parts.specs.tree_laws as tree_laws
pub use Rattle.tree_parts.specs.tree_text_laws as tree_text_laws
pub use Rattle.solver.specs.node_evaluation as node_evaluation
pub use Rattle.solver.specs.abb_search as abb_search
pub use Rattle.solver.specs.rank_search as rank_search
