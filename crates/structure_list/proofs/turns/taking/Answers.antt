use Rattle.pgraph.specs.Tables.{shape}
use Rattle.structure_list.proofs.TightLemmas.{side_in}
use Rattle.structure_list.proofs.turns.taking.Goals as goal

pub returns : goal.returns
returns c = record {
  side =
      side_in (shape c.args.graph.now) c.is_proper.ensures.proper c.args.turn.now c.requires.turn
      c.requires.tight c.taking.result c.taking.ensures.position c.taking.ensures.node
      c.taking.ensures.fewer;
}
