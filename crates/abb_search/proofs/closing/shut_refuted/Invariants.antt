use Rattle.abb_search.proofs.ClosingLemmas.{AreSoBelow, RefutesAt}
use Rattle.abb_search.proofs.closing.shut_refuted.Given as goal

abbrev pub invariant-leaves : goal.invariant-leaves
invariant-leaves l = AreSoBelow (RefutesAt l.growing) l.proofs.items l.leaf
