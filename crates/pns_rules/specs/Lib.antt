pub mod Breaks
pub mod Ends
pub mod Laws
pub mod Listing
pub mod Nodes
pub mod Shape
pub mod Structure
pub mod Tokens
pub mod Trace
pub mod Verdict
pub use Rattle.number_sets.specs as number_sets
pub use Rattle.problem_rules.specs as problem_rules
