-- What the tactics of this crate unfold.
unfoldable pub use Rattle.text_rules.specs.problem_rules.Draws.{next_state}
