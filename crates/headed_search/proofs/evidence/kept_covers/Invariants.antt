use Rattle.tree_parts.specs.pgraph.CoversView.{covers_of}
use Rattle.tree_parts.specs.pgraph.Kept.{AreKept}
use Rattle.headed_search.proofs.evidence.kept_covers.Given as goal

abbrev pub invariant-covers : goal.invariant-covers
invariant-covers l = AreKept (covers_of l.kept.items)
