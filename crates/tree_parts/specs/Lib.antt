pub mod Laws
pub mod Lines
pub mod Order
pub mod PartLaws
pub mod Splices
pub mod Tells
pub mod Waiting
pub use Rattle.tree_text_laws.specs.number_sets as number_sets
pub use Rattle.tree_text_laws.specs.integer_laws as integer_laws
pub use Rattle.tree_text_laws.specs.problem_rules as problem_rules
pub use Rattle.tree_text_laws.specs.pns_rules as pns_rules
pub use Rattle.tree_text_laws.specs.flow_rules as flow_rules
pub use Rattle.tree_text_laws.specs.tree_rules as tree_rules
pub use Rattle.cert_check.specs.tree_laws as tree_laws
pub use Rattle.tree_text_laws.specs.pns_problem as pns_problem
pub use Rattle.tree_text_laws.specs.pgraph as pgraph
pub use Rattle.tree_text_laws.specs.branch_tree as branch_tree
pub use Rattle.tree_text_laws.specs as tree_text_laws
pub use Rattle.tree_reading.specs as tree_reading
pub use Rattle.tree_text.specs as tree_text
pub use Rattle.cert_check.specs as cert_check
