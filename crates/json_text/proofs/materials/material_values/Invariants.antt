use Rattle.std.proofs.Common.{◌≡◌, ◌++◌, map}
use Rattle.report_rules.specs.number_sets.Sets.{has, IsWithin}
use Rattle.report_rules.specs.flow_rules.Net.{net_of, materials_of}
use Rattle.report_rules.specs.Facts.{material_json}
use Rattle.json_text.proofs.materials.material_values.Given as goal

-- the list so far and the values that are left give the whole list
abbrev pub invariant-loop-j : goal.invariant-loop-j
invariant-loop-j l = record {
  within : IsWithin (has l.j-iterator)
      (has (materials_of (net_of l.fn.site) (has l.fn.network.units)));
  values : l.values.items ++ map (material_json l.fn.site l.fn.network l.fn.marginals) l.j-iterator
      ≡ map (material_json l.fn.site l.fn.network l.fn.marginals)
      (materials_of (net_of l.fn.site) (has l.fn.network.units));
}
