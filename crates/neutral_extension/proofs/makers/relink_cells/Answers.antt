use Rattle.std.proofs.Common.{ap, ◌∙◌, arith}
use Rattle.pgraph.specs.Tables.{shape}
use Rattle.neutral_extension.specs.Cells.{out_cells}
use Rattle.neutral_extension.proofs.OutLemmas.{cells_none, from_all}
use Rattle.neutral_extension.proofs.makers.relink_cells.Goals as goal

pub relink_from-requires-clause-out : goal.relink_from-requires-clause-out
relink_from-requires-clause-out c =
    let k = c.requires.out in (
      k.0,
      0,
      omega arith,
      k.1,
      from_all (shape c.args.graph.now).makes c.args.u c.outputs_of.result c.outputs_of.ensures,
    )

pub returns : goal.returns
returns c = λ b out.
    let makes = (shape c.args.graph.now).makes in
    c.relink_from.ensures b 0 (omega arith) out
    (from_all makes c.args.u c.outputs_of.result c.outputs_of.ensures)
    ∙ ap (out_cells b) (cells_none makes c.args.u)
