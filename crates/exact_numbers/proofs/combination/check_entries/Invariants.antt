use Rattle.std.proofs.Common.{ℕ, ◌≡◌, ◌<◌, None}
use Rattle.integer_laws.specs.Combined.{past_at}
use Rattle.exact_numbers.proofs.combination.check_entries.Given as goal

abbrev pub invariant-loop-j : goal.invariant-loop-j
invariant-loop-j l = (k : ℕ) → k < l.j → past_at l.p l.q l.row l.pivot k ≡ None
