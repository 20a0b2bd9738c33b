use Rattle.std.proofs.Common.{◌∙◌, sym}
use Rattle.tree_text_rules.specs.number_sets.Sets.{has}
use Rattle.charges.specs.pgraph.Tables.{shape}
use Rattle.charges.specs.pgraph.View.{node_of}
use Rattle.cert_check.proofs.StepLemmas.{needed_known, dead_is}
use Rattle.cert_check.proofs.materials.is_dead.Goals as goal

pub makers_left-requires : goal.makers_left-requires
makers_left-requires c =
    needed_known (shape c.args.graph.now) (has c.args.node.now.inside) c.args.x
    c.is_proper.ensures.proper (sym c.is_needed.ensures ∙ c.if-is_needed.true)

pub returns-then-is_needed : goal.returns-then-is_needed
returns-then-is_needed c =
    let k =
    dead_is (shape c.args.graph.now) (node_of c.args.node.now) c.is_proper.ensures.proper
    c.args.x c.makers_left.result (sym c.is_needed.ensures ∙ c.if-is_needed.true)
    c.makers_left.ensures in
    ((λ h. k.0 (c.is_empty.ensures.0 h)), (λ d. c.is_empty.ensures.1 (k.1 d)))
