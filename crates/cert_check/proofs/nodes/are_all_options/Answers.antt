use Rattle.std.proofs.Common.{◌∙◌, sym}
use Rattle.tree_text_rules.specs.number_sets.Sets.{has}
use Rattle.charges.specs.pgraph.Tables.{shape}
use Rattle.cert_check.proofs.StepLemmas.{needed_known}
use Rattle.cert_check.proofs.nodes.are_all_options.Goals as goal

pub options-base-requires : goal.options-base-requires
options-base-requires c =
    needed_known (shape c.args.graph.now) (has c.args.node.now.inside) c.args.x
    c.is_proper.ensures.proper (sym c.is_needed.ensures ∙ c.if-not-is_needed.false)
