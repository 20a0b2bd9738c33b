pub mod Accepted
pub mod Charged
pub mod Claim
pub mod Costs
pub mod Fault
pub mod Head
pub mod HeadFaults
pub mod HeadKnown
pub mod HeadLaws
pub mod Headed
pub mod HeadedProved
pub mod Keeps
pub mod Known
pub mod Leaf
pub mod Lean
pub mod LeastFlows
pub mod Lower
pub mod Past
pub mod Proved
pub mod Refusals
pub mod Stops
pub mod Tail
pub mod Tree
pub mod Trim
pub mod Ways
pub use Rattle.flow_rules.specs.number_sets as number_sets
pub use Rattle.flow_rules.specs.integer_laws as integer_laws
pub use Rattle.flow_rules.specs.problem_rules as problem_rules
pub use Rattle.flow_rules.specs.pns_rules as pns_rules
pub use Rattle.flow_rules.specs as flow_rules
