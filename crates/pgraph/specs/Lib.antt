pub mod Arcs
pub mod Building
pub mod CoversView
pub mod Kept
pub mod Laws
pub mod Rivals
pub mod Tables
pub mod View
pub use Rattle.flow_rules.specs.number_sets as number_sets
pub use Rattle.flow_rules.specs.integer_laws as integer_laws
pub use Rattle.flow_rules.specs.problem_rules as problem_rules
pub use Rattle.flow_rules.specs.pns_rules as pns_rules
pub use Rattle.flow_rules.specs as flow_rules
pub use Rattle.unit_sets.specs as unit_sets
pub use Rattle.pns_problem.specs as pns_problem
