pub mod Edit
pub mod Effect
pub mod Fault
pub mod Formed
pub mod Inverse
pub mod Line
pub mod Meaning
pub mod Migration
pub mod Numbering
pub mod Place
pub mod Printed
pub mod Read
pub mod Script
pub mod ScriptFault
pub mod Term
pub use Rattle.number_sets.specs as number_sets
pub use Rattle.text_rules.specs.problem_rules as problem_rules
pub use Rattle.text_rules.specs as text_rules
