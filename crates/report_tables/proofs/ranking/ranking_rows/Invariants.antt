use Rattle.std.proofs.Common.{◌≡◌, ◌+◌, ◌++◌, drop}
use Rattle.report_amounts.specs.report_rules.Ranked.{ranking_rows}
use Rattle.report_tables.proofs.ranking.ranking_rows.Given as goal

-- the rows so far and those of the networks that are left give all of them
abbrev pub invariant-rows : goal.invariant-rows
invariant-rows l = l.rows.items ++ ranking_rows l.problem l.first (l.i + 1) (drop l.i l.networks)
    ≡ ranking_rows l.problem l.first 1 l.networks
