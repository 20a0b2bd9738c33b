pub mod Rows
pub mod Exchange
pub mod Start
pub mod Candidates
pub mod Choice
pub mod Dual
pub mod Reading
pub mod Step
pub mod Walk
pub mod Measure
pub mod Bench
pub mod Answer
pub mod Laws
pub mod Numbers
pub mod PastPlace
pub mod PastLaws
pub mod FlowLaws
pub mod ProgramNames
pub mod Sizes
pub use Rattle.flow_program.specs.number_sets as number_sets
pub use Rattle.flow_program.specs.integer_laws as integer_laws
pub use Rattle.flow_program.specs.problem_rules as problem_rules
pub use Rattle.flow_program.specs.pns_rules as pns_rules
pub use Rattle.flow_program.specs.flow_rules as flow_rules
pub use Rattle.flow_program.specs.unit_sets as unit_sets
pub use Rattle.flow_program.specs.exact_numbers as exact_numbers
pub use Rattle.flow_program.specs.pns_problem as pns_problem
pub use Rattle.flow_program.specs.pgraph as pgraph
pub use Rattle.path_laws.specs as path_laws
