use Rattle.tree_parts.proofs.MergeLemmas.{IsNotYet}
use Rattle.tree_parts.proofs.merging.leaf_at.Given as goal

abbrev pub invariant-looking : goal.invariant-looking
invariant-looking l = IsNotYet l.leaves l.start l.leaf-index
