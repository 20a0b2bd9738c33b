pub mod Cut
pub mod Fault
pub mod Item
pub mod View
pub mod Walk
pub use Rattle.text_lines.specs.number_sets as number_sets
pub use Rattle.text_lines.specs.problem_rules as problem_rules
pub use Rattle.text_lines.specs.text_rules as text_rules
pub use Rattle.text_lines.specs.edit_rules as edit_rules
pub use Rattle.text_lines.specs as text_lines
