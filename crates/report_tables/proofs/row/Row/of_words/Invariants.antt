use Rattle.std.proofs.Common.{◌≡◌, ◌++◌, drop, map}
use Rattle.report_tables.proofs.row.Row.of_words.Given as goal

-- the row so far and the words that are left give the whole row
abbrev pub invariant-words : goal.invariant-words
invariant-words l = l.row ++ map (λ w. w.now) (drop l.word-index l.words) ≡ map (λ w. w.now) l.words
