use Rattle.std.proofs.Common.{◌≡◌, ◌+◌, ◌++◌, drop}
use Rattle.report_rules.specs.JsonRanked.{network_values}
use Rattle.json_text.proofs.ranking.network_values.Given as goal

-- the values so far and those of the networks that are left give all of them
abbrev pub invariant-values : goal.invariant-values
invariant-values l = l.values.items ++ network_values l.problem l.first (l.i + 1) (drop l.i
    l.networks) ≡ network_values l.problem l.first 1 l.networks
