use Rattle.std.proofs.Common.{◌≡◌, ◌++◌, map}
use Rattle.text_lines.specs.number_sets.Sets.{has, IsWithin}
use Rattle.report_amounts.specs.report_rules.Report.{unit_row}
use Rattle.report_tables.proofs.units.unit_rows.Given as goal

-- the table so far and the rows that are left give the whole table
abbrev pub invariant-loop-u : goal.invariant-loop-u
invariant-loop-u l = record {
  within : IsWithin (has l.u-iterator) (has l.fn.network.units);
  rows : l.rows.items ++ map (unit_row l.fn.problem l.fn.network l.fn.marginals) l.u-iterator
      ≡ map (unit_row l.fn.problem l.fn.network l.fn.marginals) l.fn.network.units;
}
