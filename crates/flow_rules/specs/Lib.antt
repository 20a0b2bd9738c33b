pub mod BoundSteps
pub mod Charge
pub mod ChargeFacts
pub mod ChargeLaws
pub mod ChargeLeaf
pub mod ChargeSteps
pub mod Columns
pub mod CostSteps
pub mod Cover
pub mod Equations
pub mod FeasibleSteps
pub mod Flows
pub mod Laws
pub mod Lexicographic
pub mod LinearProgram
pub mod Multipliers
pub mod Named
pub mod Net
pub mod PastPlace
pub mod Path
pub mod Pivots
pub mod Places
pub mod Program
pub mod Rank
pub mod ReadFlows
pub mod Relaxed
pub mod Start
pub mod Steps
pub mod Tableau
pub mod Vectors
pub use Rattle.pns_rules.specs.number_sets as number_sets
pub use Rattle.integer_laws.specs as integer_laws
pub use Rattle.pns_rules.specs.problem_rules as problem_rules
pub use Rattle.pns_rules.specs as pns_rules
