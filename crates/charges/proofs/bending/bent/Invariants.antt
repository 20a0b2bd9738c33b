use Rattle.std.proofs.Common.{length}
use Rattle.charges.specs.Bends.{as_owed, knee_at}
use Rattle.charges.proofs.BendLemmas.{IsBentSoFar}
use Rattle.charges.proofs.bending.bent.Given as goal

abbrev pub invariant-bending : goal.invariant-bending
invariant-bending l = IsBentSoFar l.fn.sizes.low l.fn.sizes.high (knee_at l.knees) l.knees.set
    (as_owed l.fn.owed) (as_owed l.rest) l.fn.start l.at l.left

abbrev pub decreases-bending : goal.decreases-bending
decreases-bending l = length l.left
