use Rattle.std.proofs.Common.{◌≡◌, drop}
use Rattle.report_amounts.specs.report_rules.Aligned.{widest}
use Rattle.report_tables.proofs.column.widest.Given as goal

abbrev pub invariant-rows : goal.invariant-rows
invariant-rows l = widest l.measure l.k l.best (drop l.row-index
    l.rows) ≡ widest l.measure l.k l.least l.rows
