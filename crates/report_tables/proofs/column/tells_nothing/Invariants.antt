use Rattle.std.proofs.Common.{◌≡◌, drop}
use Rattle.report_amounts.specs.report_rules.Aligned.{tells_nothing}
use Rattle.report_tables.proofs.column.tells_nothing.Given as goal

abbrev pub invariant-bytes : goal.invariant-bytes
invariant-bytes l = tells_nothing (drop l.byte-index l.bytes) ≡ tells_nothing l.cell
