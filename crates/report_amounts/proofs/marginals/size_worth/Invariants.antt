use Rattle.std.proofs.Common.{◌≡◌}
use Rattle.report_rules.specs.Number.{sum_from}
use Rattle.report_rules.specs.Marginal.{traded, size_worth}
use Rattle.report_amounts.proofs.marginals.size_worth.Given as goal

-- the sum so far and the materials that are left give the whole sum
abbrev pub invariant-loop-j : goal.invariant-loop-j
invariant-loop-j l = sum_from l.sum (traded l.fn.problem l.fn.multipliers l.fn.u) l.j-iterator
    ≡ size_worth l.fn.problem l.fn.multipliers l.fn.u
