use Rattle.std.proofs.Common.{◌≡◌, drop}
use Rattle.report_amounts.specs.report_rules.Drawn.{most_of}
use Rattle.graph_text.proofs.greatest.most_of.Given as goal

-- the number so far and the terms that are left give the whole number
abbrev pub invariant-terms : goal.invariant-terms
invariant-terms l = most_of l.fn.problem l.fn.network l.fn.u l.most (drop l.term-index
    l.terms) ≡ most_of l.fn.problem l.fn.network l.fn.u l.fn.least l.terms
