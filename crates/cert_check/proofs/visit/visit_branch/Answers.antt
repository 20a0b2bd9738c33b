use Rattle.tree_text_rules.specs.number_sets.Sets.{has}
use Rattle.charges.specs.pgraph.Tables.{shape}
use Rattle.cert_check.proofs.StepLemmas.{needed_known}
use Rattle.cert_check.proofs.visit.visit_branch.Goals as goal

pub push_children-requires : goal.push_children-requires
push_children-requires c =
    needed_known (shape c.args.graph.now) (has c.args.node.now.inside) c.args.material
    c.is_proper.ensures.proper (c.are_all_options.ensures.0 c.if-not-are_all_options.false).0
