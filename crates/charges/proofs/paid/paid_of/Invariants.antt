use Rattle.charges.proofs.PaidLemmas.{IsPaidSoFar}
use Rattle.charges.proofs.paid.paid_of.Given as goal

abbrev pub invariant-loop-cover : goal.invariant-loop-cover
invariant-loop-cover l = IsPaidSoFar l.covers l.paid.to l.fn.start l.paid.at l.cover-index
