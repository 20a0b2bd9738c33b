use Rattle.std.proofs.Common.{◌≡◌, ◌++◌}
use Rattle.std.specs.List.{range_with_len, flat_map}
use Rattle.plan_laws.specs.plan_rules.Expanded.{period_materials}
use Rattle.periods.proofs.materials.push_periods.Given as goal

abbrev pub invariant-copying : goal.invariant-copying
invariant-copying l = record {
  made : l.materials.items ≡ l.fn.materials.items
      ++ flat_map (period_materials l.problem (record { periods = l.periods }))
      (range_with_len 0 l.t);
  count : l.t ≡ l.at-index;
}
