use Rattle.pgraph.specs.Tables.{shape}
use Rattle.structure_list.specs.Position.{free_count}
use Rattle.structure_list.proofs.compare.+compare_from.Given as goal

abbrev pub decreases-compare_from : goal.decreases-compare_from
decreases-compare_from l = free_count (shape l.graph.now) l.position.decided.node
