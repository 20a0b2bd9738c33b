-- What the tactics of this crate unfold.
unfoldable pub use Rattle.report_amounts.specs.report_rules.Amounts.{quotient}
