pub mod Known
pub mod Fits
pub mod Laws
pub mod Takes
pub use Rattle.tree_text_laws.specs.integer_laws as integer_laws
pub use Rattle.tree_text_laws.specs.problem_rules as problem_rules
pub use Rattle.tree_text_laws.specs.text_rules as text_rules
pub use Rattle.tree_text_laws.specs.flow_rules as flow_rules
pub use Rattle.tree_text_laws.specs.tree_rules as tree_rules
pub use Rattle.tree_text_laws.specs.tree_text_rules as tree_text_rules
pub use Rattle.rank_check.specs.rank_rules as rank_rules
pub use Rattle.rank_check.specs.tree_laws as tree_laws
pub use Rattle.rank_check.specs.rank_laws as rank_laws
pub use Rattle.tree_text_laws.specs.branch_tree as branch_tree
pub use Rattle.tree_text_laws.specs as tree_text_laws
pub use Rattle.tree_reading.specs as tree_reading
pub use Rattle.rank_check.specs as rank_check
