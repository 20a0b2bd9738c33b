use Rattle.charges.proofs.PaidLemmas.{IsWeighed}
use Rattle.charges.proofs.paid.with_weights.Given as goal

abbrev pub invariant-loop-cover : goal.invariant-loop-cover
invariant-loop-cover l = IsWeighed l.covers l.fn.from.sum l.sum l.fn.from.at l.at l.cover-index
