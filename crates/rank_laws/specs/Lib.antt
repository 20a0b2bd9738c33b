pub mod Laws
pub use Rattle.rank_rules.specs.number_sets as number_sets
pub use Rattle.rank_rules.specs.integer_laws as integer_laws
pub use Rattle.rank_rules.specs.problem_rules as problem_rules
pub use Rattle.rank_rules.specs.pns_rules as pns_rules
pub use Rattle.rank_rules.specs.flow_rules as flow_rules
pub use Rattle.rank_rules.specs.tree_rules as tree_rules
pub use Rattle.rank_rules.specs.tree_text_rules as tree_text_rules
pub use Rattle.rank_rules.specs as rank_rules
pub use Rattle.tree_laws.specs as tree_laws
