use Rattle.std.proofs.Common.{◌∙◌, sym}
use Rattle.tree_text_rules.specs.number_sets.Sets.{has}
use Rattle.charges.specs.pgraph.Tables.{shape}
use Rattle.charges.specs.pgraph.View.{node_of}
use Rattle.cert_check.proofs.SetLemmas.{free_is}
use Rattle.cert_check.proofs.StepLemmas.{needed_known, sole_is}
use Rattle.cert_check.proofs.steps.sole_is_possible.Goals as goal

pub makers_left-requires : goal.makers_left-requires
makers_left-requires c =
    needed_known (shape c.args.graph.now) (has c.args.node.now.inside) c.args.x
    c.is_proper.ensures.proper (sym c.is_needed.ensures ∙ c.if-not-is_needed.false)

pub returns : goal.returns
returns c =
    let g = shape c.args.graph.now in
    let n = node_of c.args.node.now in
    let f = c.is_free.ensures.0 c.if-not-is_free.false in
    let k =
    sole_is g n c.is_proper.ensures.proper c.args.x c.args.u c.makers_left.result
    c.makers_left.ensures f.0 ((free_is g n c.args.u).0 f.1).0
    (sym c.is_needed.ensures ∙ c.if-not-is_needed.false) in
    ((λ h. k.0 (c.is_alone.ensures.0 h)), (λ p. c.is_alone.ensures.1 (k.1 p)))
