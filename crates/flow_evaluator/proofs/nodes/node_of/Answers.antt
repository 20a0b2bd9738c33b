use Rattle.std.proofs.Common.{◌≡◌, ℕ, Bool, not, List, length, ap, ◌∙◌, rules}
use Rattle.std.specs.Prelude.{◌&&◌, nat_lt}
use Rattle.std.proofs.Math.Path.{fun_ext}
use Rattle.dual_simplex.specs.number_sets.Sets.{has}
use Rattle.dual_simplex.proofs.number_sets.Cited.{has-minus}
use Rattle.dual_simplex.specs.pns_rules.Nodes.{Node}
use Rattle.flow_evaluator.proofs.nodes.node_of.Goals as goal

pub returns-clause-node : goal.returns-clause-node
returns-clause-node c =
    let us = c.args.set in
    let n = length c.args.problem.now.units in
    let below : (u : ℕ) → has c.below-all.result u ≡ nat_lt u n = λ u. search rules in
    let at : (u : ℕ) → has c.minus.result u ≡ (nat_lt u n && not (has us u)) =
    λ u. ap (λ (xs : List ℕ). has xs u) c.minus.ensures
    ∙ (has-minus c.below-all.result us u ∙ ap (λ (b : Bool). b && not (has us u)) (below u)) in
    let same : has c.minus.result ≡ (λ u. nat_lt u n && not (has us u)) = fun_ext at in
    ap (λ (f : ℕ → Bool). let node : Node = record { inside = has us; outside = f } in node) same
