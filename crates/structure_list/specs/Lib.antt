pub mod Balance
pub mod Due
pub mod Family
pub mod MaxRest
pub mod Position
pub mod Rest
pub mod Stack
pub mod Start
pub mod Tight
pub use Rattle.pgraph.specs.number_sets as number_sets
pub use Rattle.pgraph.specs.integer_laws as integer_laws
pub use Rattle.pgraph.specs.problem_rules as problem_rules
pub use Rattle.pgraph.specs.pns_rules as pns_rules
pub use Rattle.pgraph.specs.flow_rules as flow_rules
pub use Rattle.pgraph.specs.unit_sets as unit_sets
pub use Rattle.pgraph.specs.pns_problem as pns_problem
pub use Rattle.pgraph.specs as pgraph
