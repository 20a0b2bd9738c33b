use Rattle.std.proofs.Common.{◌≡◌, ◌∙◌, Option, ap, sym}
use Rattle.tree_parts.specs.pgraph.View.{node_of}
use Rattle.report_rules.specs.tree_rules.Leaf.{Scaled, untried}
use Rattle.report_rules.specs.tree_rules.Lower.{leaf_low}
use Rattle.verdicts.proofs.lower.leaf_bound.Goals as goal

pub returns-in-Some : goal.returns-in-Some
returns-in-Some c =
    c.bound_by.ensures
    ∙ ap (λ (o : Option Scaled). leaf_low c.args.site.now (node_of c.args.node) (untried o))
    (sym c.in-Some.is)
