pub mod Amount
pub mod Blanks
pub mod Canonical
pub mod Fault
pub mod Field
pub mod Line
pub mod Outside
pub mod Printed
pub mod State
pub mod Term
pub mod Value
pub use Rattle.problem_rules.specs as problem_rules
