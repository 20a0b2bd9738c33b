use Rattle.std.proofs.Common.{◌≡◌, ◌++◌, drop, map}
use Rattle.report_amounts.specs.report_rules.Measures.{with_measure}
use Rattle.report_tables.proofs.cells.push_headings.Given as goal

-- the row so far and the words that are left give the whole row
abbrev pub invariant-words : goal.invariant-words
invariant-words l = l.row ++ map (λ w. with_measure l.measure w.now) (drop l.word-index l.words)
    ≡ l.fn.row ++ map (λ w. with_measure l.measure w.now) l.words
