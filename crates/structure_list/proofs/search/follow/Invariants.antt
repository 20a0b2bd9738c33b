use Rattle.pgraph.specs.number_sets.Sets.{has}
use Rattle.pgraph.specs.Tables.{shape}
use Rattle.structure_list.specs.Position.{free_count}
use Rattle.structure_list.proofs.FollowLemmas.{IsFollowing}
use Rattle.structure_list.proofs.search.follow.Given as goal

abbrev pub invariant-follow : goal.invariant-follow
invariant-follow l = IsFollowing (shape l.graph) (has l.fn.set) l.stack l.here

abbrev pub decreases-follow : goal.decreases-follow
decreases-follow l = free_count (shape l.graph) l.here.decided.node
