use Rattle.std.proofs.Common.{◌≡◌, ◌∷◌, [], length}
use Rattle.tree_text_rules.specs.pns_rules.Shape.{shape_of}
use Rattle.charges.specs.pgraph.View.{node_of}
use Rattle.cert_check.specs.Subtrees.{stack_of, AreEnds}
use Rattle.cert_check.specs.OpenLeaves.{leaves_at}
use Rattle.cert_check.specs.Visits.{leaf_passes, leaf_fails}
use Rattle.cert_check.proofs.TurnLemmas.{IsAt, AreFound}
use Rattle.cert_check.proofs.walk.walk_to.Given as goal

abbrev pub invariant-walk : goal.invariant-walk
invariant-walk l = record {
  at : IsAt (shape_of l.judge.site.now) (leaf_passes l.judge) (leaf_fails l.judge)
      (node_of l.start ∷ []) l.nodes (stack_of l.stack.items) l.i;
  found : AreFound (shape_of l.judge.site.now) (node_of l.start ∷ []) l.nodes
      (leaves_at l.leaves.items) (stack_of l.stack.items) l.i;
  same : length l.ends.items ≡ length l.nodes;
  are : AreEnds l.nodes l.ends.items 0;
}
