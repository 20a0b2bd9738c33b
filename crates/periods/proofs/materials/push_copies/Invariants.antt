use Rattle.std.proofs.Common.{◌≡◌, ◌++◌, map}
use Rattle.std.specs.List.{range_with_len}
use Rattle.plan_laws.specs.plan_rules.Expanded.{copy}
use Rattle.periods.proofs.materials.push_copies.Given as goal

abbrev pub invariant-copying : goal.invariant-copying
invariant-copying l = l.materials.items ≡ l.fn.materials.items ++ map (copy l.problem l.at
    l.period) (range_with_len 0 l.number)
