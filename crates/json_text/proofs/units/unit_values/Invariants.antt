use Rattle.std.proofs.Common.{◌≡◌, ◌++◌, map}
use Rattle.report_rules.specs.number_sets.Sets.{has, IsWithin}
use Rattle.report_rules.specs.Facts.{unit_json}
use Rattle.json_text.proofs.units.unit_values.Given as goal

-- the list so far and the values that are left give the whole list
abbrev pub invariant-loop-u : goal.invariant-loop-u
invariant-loop-u l = record {
  within : IsWithin (has l.u-iterator) (has l.fn.network.units);
  values : l.values.items ++ map (unit_json l.fn.problem l.fn.network l.fn.marginals) l.u-iterator
      ≡ map (unit_json l.fn.problem l.fn.network l.fn.marginals) l.fn.network.units;
}
