use Rattle.std.proofs.Common.{Some}
use Rattle.report_rules.specs.number_sets.Sets.{has, IsWithin}
use Rattle.report_rules.specs.Table.{unit_heading, IsUnitRow}
use Rattle.report_amounts.proofs.RowLemmas.{IsTableSoFar}
use Rattle.report_amounts.proofs.units.unit_table.Given as goal

abbrev pub invariant-loop-u : goal.invariant-loop-u
invariant-loop-u l = record {
  within : IsWithin (has l.u-iterator) (has l.fn.network.units);
  table : IsTableSoFar (λ v. Some v.items) unit_heading (IsUnitRow l.fn.problem l.fn.network)
      l.fn.network.units l.writer l.u-iterator;
}
