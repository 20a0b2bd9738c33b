use Rattle.std.proofs.Common.{◌∙◌, ℕ, List, length, ap}
use Rattle.scaled_flows.specs.number_sets.Sets.{listed}
use Rattle.scaled_flows.specs.pns_rules.Shape.{Shape}
use Rattle.scaled_flows.specs.pns_rules.Structure.{mats}
use Rattle.scaled_flows.specs.pgraph.View.{node_of}
use Rattle.scaled_flows.specs.flow_rules.Relaxed.{stays}
use Rattle.certified_bounds.proofs.judged.row_count.Goals as goal

pub returns : goal.returns
returns c = λ p e. c.count.ensures
    ∙ ap (λ (xs : List ℕ). length xs)
    (c.sets_of.ensures.rows_are
    ∙ ap (λ (g : Shape). listed g.materials (mats g (stays (node_of c.args.node.now)))) e)
