use Rattle.std.proofs.Common.{Some}
use Rattle.report_rules.specs.number_sets.Sets.{has, IsWithin}
use Rattle.report_rules.specs.flow_rules.Net.{net_of, materials_of}
use Rattle.report_rules.specs.Table.{material_heading, IsMaterialRow}
use Rattle.report_amounts.proofs.RowLemmas.{IsTableSoFar}
use Rattle.report_amounts.proofs.materials.material_table.Given as goal

abbrev pub invariant-loop-j : goal.invariant-loop-j
invariant-loop-j l = record {
  within : IsWithin (has l.j-iterator)
      (has (materials_of (net_of l.fn.site) (has l.fn.network.units)));
  table : IsTableSoFar (λ v. Some v.items) material_heading (IsMaterialRow l.fn.site l.fn.network)
      (materials_of (net_of l.fn.site) (has l.fn.network.units)) l.writer l.j-iterator;
}
