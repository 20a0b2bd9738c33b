use Rattle.std.proofs.Common.{◌≡◌, ◌+◌, ◌*◌, map}
use Rattle.std.specs.List.{range_with_len}
use Rattle.plan_laws.specs.plan_rules.Folded.{run_from}
use Rattle.periods.proofs.folding.runs_of.Given as goal

abbrev pub invariant-running : goal.invariant-running
invariant-running l = l.runs.items ≡ map (λ t. run_from l.network (l.units + t * l.units + 0)
    l.units) (range_with_len 0 l.t)
