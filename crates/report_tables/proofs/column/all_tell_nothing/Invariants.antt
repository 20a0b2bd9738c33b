use Rattle.std.proofs.Common.{◌≡◌, drop}
use Rattle.report_amounts.specs.report_rules.Aligned.{all_tell_nothing}
use Rattle.report_tables.proofs.column.all_tell_nothing.Given as goal

abbrev pub invariant-rows : goal.invariant-rows
invariant-rows l = all_tell_nothing l.k (drop l.row-index l.rows) ≡ all_tell_nothing l.k l.rows
