use Rattle.abb_search.proofs.ClosingLemmas.{AreSoBelow, TellsAt}
use Rattle.abb_search.proofs.closing.tell_leaves.Given as goal

abbrev pub invariant-leaves : goal.invariant-leaves
invariant-leaves l = AreSoBelow (TellsAt l.growing) l.told.items l.leaf
