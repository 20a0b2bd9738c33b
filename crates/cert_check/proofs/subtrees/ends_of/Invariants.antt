use Rattle.std.proofs.Common.{◌≡◌, ◌≤◌, length}
use Rattle.cert_check.specs.Subtrees.{AreEnds}
use Rattle.cert_check.proofs.subtrees.ends_of.Given as goal

abbrev pub invariant-back : goal.invariant-back
invariant-back l = record {
  within : l.i ≤ length l.nodes;
  same : length l.ends.items ≡ length l.nodes;
  are : AreEnds l.nodes l.ends.items l.i;
}

abbrev pub decreases-back : goal.decreases-back
decreases-back l = l.i
