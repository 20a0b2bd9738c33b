use Rattle.pgraph.specs.Tables.{shape}
use Rattle.structure_list.proofs.TightLemmas.{side_out}
use Rattle.structure_list.proofs.turns.left_with.Goals as goal

pub returns-clause-side : goal.returns-clause-side
returns-clause-side c =
    side_out (shape c.args.graph.now) c.is_proper.ensures.proper c.args.turn.now c.requires.turn
    c.requires.tight c.args.kept c.args.rest c.minus-gone.result c.union.result
    c.requires.kept c.requires.rest c.minus-gone.ensures c.union.ensures
