use Rattle.std.proofs.Common.{ap, ◌∙◌}
use Rattle.pgraph.specs.Tables.{shape}
use Rattle.structure_list.proofs.PositionLemmas.{first_due}
use Rattle.structure_list.proofs.decided.Decided.first_needed.Goals as goal

pub returns : goal.returns
returns c =
    c.least.ensures
    ∙ first_due (shape c.args.graph.now) c.is_proper.ensures.proper c.args.self.now.node.inside
    c.args.self.now.done c.needed.result c.minus-due.result
    (λ x. ap (λ t. t x) c.needed.ensures) c.minus-due.ensures c.rises.ensures.rising
