use Rattle.std.proofs.Common.{◌∙◌, ℕ, List, length, ap}
use Rattle.dual_simplex.specs.number_sets.Sets.{listed}
use Rattle.dual_simplex.specs.pns_rules.Shape.{Shape}
use Rattle.dual_simplex.specs.pns_rules.Structure.{mats}
use Rattle.dual_simplex.specs.pgraph.View.{node_of}
use Rattle.dual_simplex.specs.flow_rules.Relaxed.{stays}
use Rattle.flow_evaluator.proofs.charging.row_count.Goals as goal

pub returns : goal.returns
returns c = λ p e. c.count.ensures
    ∙ ap (λ (xs : List ℕ). length xs)
    (c.sets_of.ensures.rows_are
    ∙ ap (λ (g : Shape). listed g.materials (mats g (stays (node_of c.args.node.now)))) e)
