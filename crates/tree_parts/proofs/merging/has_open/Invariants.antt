use Rattle.tree_parts.proofs.MergeLemmas.{IsShut}
use Rattle.tree_parts.proofs.merging.has_open.Given as goal

abbrev pub invariant-looking : goal.invariant-looking
invariant-looking l = IsShut l.nodes l.node-index
