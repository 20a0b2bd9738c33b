pub mod Lines
pub mod Numbers
pub mod Once
pub mod Tells
pub mod Terms
pub mod View
pub mod Words
pub use Rattle.edit_rules.specs.number_sets as number_sets
pub use Rattle.edit_rules.specs.problem_rules as problem_rules
pub use Rattle.edit_rules.specs.text_rules as text_rules
pub use Rattle.edit_rules.specs as edit_rules
pub use Rattle.text_laws.specs as text_laws
