pub mod Earlier
pub mod Known
pub mod Marks
pub mod Others
pub mod Refusals
pub mod View
pub use Rattle.rank_laws.specs.number_sets as number_sets
pub use Rattle.rank_laws.specs.integer_laws as integer_laws
pub use Rattle.rank_laws.specs.problem_rules as problem_rules
pub use Rattle.rank_laws.specs.pns_rules as pns_rules
pub use Rattle.rank_laws.specs.flow_rules as flow_rules
pub use Rattle.rank_laws.specs.tree_rules as tree_rules
pub use Rattle.rank_laws.specs.rank_rules as rank_rules
pub use Rattle.rank_laws.specs.tree_laws as tree_laws
pub use Rattle.rank_laws.specs as rank_laws
pub use Rattle.cert_check.specs.unit_sets as unit_sets
pub use Rattle.cert_check.specs.exact_numbers as exact_numbers
pub use Rattle.cert_check.specs.pgraph as pgraph
pub use Rattle.cert_check.specs.branch_tree as branch_tree
