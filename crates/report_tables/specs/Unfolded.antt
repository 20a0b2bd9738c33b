-- What the tactics of this crate unfold.
unfoldable pub use Rattle.report_amounts.specs.report_rules.Amounts.{quotient}
unfoldable pub use Rattle.report_amounts.specs.report_rules.Lower.{low_cell}
unfoldable pub use Rattle.report_amounts.specs.report_rules.Ranked.{share_above_cell, with_idle}
unfoldable pub use Rattle.report_amounts.specs.report_rules.Report.{idle_words, least_words}
unfoldable pub use Rattle.report_amounts.specs.report_rules.Report.{limit_words, marginal_cell}
unfoldable pub use Rattle.report_amounts.specs.report_rules.Report.{most_words, number_cell}
unfoldable pub use Rattle.report_amounts.specs.report_rules.Report.{total_cell, unbounded_or}
