use Rattle.std.proofs.Common.{◌≡◌, ◌++◌}
use Rattle.report_rules.specs.JsonRanked.{idle_values}
use Rattle.json_text.proofs.ranking.idle_values.Given as goal

-- the list so far and the names that are left give the whole list
abbrev pub invariant-loop-u : goal.invariant-loop-u
invariant-loop-u l = l.values.items ++ idle_values l.fn.problem l.fn.network l.u-iterator
    ≡ idle_values l.fn.problem l.fn.network l.fn.units
