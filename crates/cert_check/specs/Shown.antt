-- What contracts see of a claimed cost, and of what a charge hands in.
use Rattle.std.specs.Prelude.{ℤ, List, Option, Some, None}
use Rattle.tree_text_rules.specs.flow_rules.ChargeLeaf.{Handed}
use Rattle.tree_text_rules.specs.tree_rules.Claim as rules
use Rattle.charges.specs.exact_numbers.declared.cost.CostOver.{CostOver}
use Rattle.charges.specs.pgraph.declared.cover.Cover.{Cover}
use Rattle.charges.specs.pgraph.CoversView.{covers_of}

abbrev pub cost_over : Option CostOver → Option rules.CostOver
cost_over None = None
cost_over (Some claimed) = Some (record { cost = claimed.cost; d = claimed.d })

abbrev pub handed : ℤ → List ℤ → List Cover → Handed
handed d ys covers = record { d = d; ys = ys; covers = covers_of covers }
