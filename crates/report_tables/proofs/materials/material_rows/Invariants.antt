use Rattle.std.proofs.Common.{◌≡◌, ◌++◌, map}
use Rattle.text_lines.specs.number_sets.Sets.{has, IsWithin}
use Rattle.cert_check.specs.flow_rules.Net.{net_of, materials_of}
use Rattle.report_amounts.specs.report_rules.Report.{material_row}
use Rattle.report_tables.proofs.materials.material_rows.Given as goal

-- the table so far and the rows that are left give the whole table
abbrev pub invariant-loop-j : goal.invariant-loop-j
invariant-loop-j l = record {
  within : IsWithin (has l.j-iterator)
      (has (materials_of (net_of l.fn.site) (has l.fn.network.units)));
  rows : l.rows.items ++ map (material_row l.fn.site l.fn.network l.fn.marginals) l.j-iterator
      ≡ map (material_row l.fn.site l.fn.network l.fn.marginals)
      (materials_of (net_of l.fn.site) (has l.fn.network.units));
}
