use Rattle.std.proofs.Common.{sym, ◌∙◌}
use Rattle.pgraph.specs.number_sets.Sets.{has}
use Rattle.pgraph.specs.Tables.{shape}
use Rattle.structure_list.proofs.LeavingLemmas.{starved_is}
use Rattle.structure_list.proofs.leaving.starved.Goals as goal

pub returns-else-has-clause-starved : goal.returns-else-has-clause-starved
returns-else-has-clause-starved c =
    starved_is (shape c.args.graph.now) (has c.args.wanted) c.args.left c.consumers.result
    c.meet.result c.args.x c.consumers.ensures c.meet.ensures
    (sym c.is_made.ensures ∙ c.if-is_made.false) (sym c.has.ensures ∙ c.if-has.false)
