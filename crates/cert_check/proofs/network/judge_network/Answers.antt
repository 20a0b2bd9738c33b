use Rattle.std.proofs.Common.{◌≡◌, ◌∙◌, refl, sym, ap, subst, inl, inr, rules, SFits, to_z, of_z}
use Rattle.std.specs.Int.{w128}
use Rattle.std.proofs.lemmas.Bool.{both_ways}
use Rattle.std.proofs.lemmas.Int.{to_z-of_z}
use Rattle.tree_text_rules.specs.number_sets.Sets.{has}
use Rattle.tree_text_rules.specs.problem_rules.Problem.{Problem}
use Rattle.tree_text_rules.specs.pns_rules.Shape.{Shape, shape_of}
use Rattle.tree_text_rules.specs.pns_rules.Structure.{IsStructure, IsAllowed}
use Rattle.tree_text_rules.specs.flow_rules.Net.{net_of, beside}
use Rattle.tree_text_rules.specs.flow_rules.CostSteps.{cost_steps}
use Rattle.tree_text_rules.specs.flow_rules.FeasibleSteps.{feasible_steps}
use Rattle.tree_text_rules.proofs.flow_rules.Cited.{not_both}
use Rattle.tree_text_rules.specs.tree_rules.declared.why.Why.TheVariants as causes
use Rattle.tree_text_rules.specs.tree_rules.Claim.{Network, network, IsFeasible, ClaimFails}
use Rattle.cert_check.proofs.network.judge_network.Goals as goal

pub returns-in_default-feasible-clause-fails : goal.returns-in_default-feasible-clause-fails
returns-in_default-feasible-clause-fails c = λ partial.
    let p = c.problem-problem.result.now in
    let shapes = c.graph-graph.ensures.same ∙ ap shape_of (sym c.problem-problem.ensures.same) in
    let s = has c.args.units in
    let fits = c.ranges.d in
    let z = beside c.args.units c.args.sizes.now in
    let structure : IsStructure (shape_of p) s =
    subst (λ (g : Shape). IsStructure g s) shapes (c.judge.ensures.meets.0 c.in-Meets.is) in
    let allowed : IsAllowed (shape_of p) s =
    subst (λ (g : Shape). IsAllowed g s) shapes c.in_default-clash.ensures in
    let w : Network =
    record {
      units = c.args.units;
      sizes = c.args.sizes.now;
      d = c.args.d;
      cost =
          c.args.cost;
    } in
    subst (λ (q : Problem). ClaimFails partial q (network w) causes.Sum)
    c.problem-problem.ensures.same
    (inr (
      structure,
      inr (
        allowed,
        inl (
          refl,
          (λ r. not_both (feasible_steps (net_of p) s z c.args.d) c.in_default-feasible.field-0.at r
              c.in_default-feasible.ensures.past),
        ),
      ),
    ))

pub returns-then-not-holds-clause-fails : goal.returns-then-not-holds-clause-fails
returns-then-not-holds-clause-fails c = λ partial.
    let p = c.problem-problem.result.now in
    let shapes = c.graph-graph.ensures.same ∙ ap shape_of (sym c.problem-problem.ensures.same) in
    let s = has c.args.units in
    let fits = c.ranges.d in
    let z = beside c.args.units c.args.sizes.now in
    let structure : IsStructure (shape_of p) s =
    subst (λ (g : Shape). IsStructure g s) shapes (c.judge.ensures.meets.0 c.in-Meets.is) in
    let allowed : IsAllowed (shape_of p) s =
    subst (λ (g : Shape). IsAllowed g s) shapes c.in_default-clash.ensures in
    let w : Network =
    record {
      units = c.args.units;
      sizes = c.args.sizes.now;
      d = c.args.d;
      cost =
          c.args.cost;
    } in
    subst (λ (q : Problem). ClaimFails partial q (network w) causes.Flows)
    c.problem-problem.ensures.same
    (inr (
      structure,
      inr (
        allowed,
        inr (
          c.in-Ok.ensures.in_range,
          inl (
            refl,
            (λ f. both_ways c.in-Ok.holds c.if-not-holds.true
                ((simp to_z-of_z at c.in-Ok.ensures.value).1 f)),
          ),
        ),
      ),
    ))

pub returns-in_default-cost_of-clause-fails : goal.returns-in_default-cost_of-clause-fails
returns-in_default-cost_of-clause-fails c = λ partial.
    let p = c.problem-problem.result.now in
    let shapes = c.graph-graph.ensures.same ∙ ap shape_of (sym c.problem-problem.ensures.same) in
    let s = has c.args.units in
    let fits = c.ranges.d in
    let z = beside c.args.units c.args.sizes.now in
    let structure : IsStructure (shape_of p) s =
    subst (λ (g : Shape). IsStructure g s) shapes (c.judge.ensures.meets.0 c.in-Meets.is) in
    let allowed : IsAllowed (shape_of p) s =
    subst (λ (g : Shape). IsAllowed g s) shapes c.in_default-clash.ensures in
    let w : Network =
    record {
      units = c.args.units;
      sizes = c.args.sizes.now;
      d = c.args.d;
      cost =
          c.args.cost;
    } in
    subst (λ (q : Problem). ClaimFails partial q (network w) causes.Sum)
    c.problem-problem.ensures.same
    (inr (
      structure,
      inr (
        allowed,
        inr (
          c.in-Ok.ensures.in_range,
          inr (
            (simp to_z-of_z at c.in-Ok.ensures.value).0 c.if-not-holds.false,
            inl (
              refl,
              (λ r. not_both (cost_steps (net_of p) s z c.args.d) c.in_default-cost_of.field-0.at
                  r (simp to_z-of_z at c.in_default-cost_of.ensures.past)),
            ),
          ),
        ),
      ),
    ))

pub returns-then-are_same-clause-passes : goal.returns-then-are_same-clause-passes
returns-then-are_same-clause-passes c =
    let p = c.problem-problem.result.now in
    let shapes = c.graph-graph.ensures.same ∙ ap shape_of (sym c.problem-problem.ensures.same) in
    let s = has c.args.units in
    let total_fits : SFits w128 c.in-Ok-cost_of.total = search rules in
    let total : to_z w128 (of_z w128 c.in-Ok-cost_of.total) ≡ c.in-Ok-cost_of.total =
    to_z-of_z w128 c.in-Ok-cost_of.total total_fits in
    let claimed : to_z w128 (of_z w128 c.args.cost) ≡ c.args.cost =
    to_z-of_z w128 c.args.cost c.ranges.cost in
    let fits = c.ranges.d in
    let z = beside c.args.units c.args.sizes.now in
    let structure : IsStructure (shape_of p) s =
    subst (λ (g : Shape). IsStructure g s) shapes (c.judge.ensures.meets.0 c.in-Meets.is) in
    let allowed : IsAllowed (shape_of p) s =
    subst (λ (g : Shape). IsAllowed g s) shapes c.in_default-clash.ensures in
    let w : Network =
    record {
      units = c.args.units;
      sizes = c.args.sizes.now;
      d = c.args.d;
      cost =
          c.args.cost;
    } in
    subst (λ (q : Problem). IsFeasible q w) c.problem-problem.ensures.same
    (record {
      structure = structure;
      allowed = allowed;
      balances = c.in-Ok.ensures.in_range;
      flows = (simp to_z-of_z at c.in-Ok.ensures.value).0 c.if-not-holds.false;
      costs = (simp to_z-of_z at c.in-Ok-cost_of.ensures.in_range);
      cost_is = sym (simp to_z-of_z at c.in-Ok-cost_of.ensures.value)
          ∙ (sym total ∙ (c.are_same.ensures.0 c.if-are_same.true ∙ claimed));
    })

pub returns-else-are_same-clause-fails : goal.returns-else-are_same-clause-fails
returns-else-are_same-clause-fails c = λ partial.
    let p = c.problem-problem.result.now in
    let shapes = c.graph-graph.ensures.same ∙ ap shape_of (sym c.problem-problem.ensures.same) in
    let s = has c.args.units in
    let total_fits : SFits w128 c.in-Ok-cost_of.total = search rules in
    let total : to_z w128 (of_z w128 c.in-Ok-cost_of.total) ≡ c.in-Ok-cost_of.total =
    to_z-of_z w128 c.in-Ok-cost_of.total total_fits in
    let claimed : to_z w128 (of_z w128 c.args.cost) ≡ c.args.cost =
    to_z-of_z w128 c.args.cost c.ranges.cost in
    let fits = c.ranges.d in
    let z = beside c.args.units c.args.sizes.now in
    let structure : IsStructure (shape_of p) s =
    subst (λ (g : Shape). IsStructure g s) shapes (c.judge.ensures.meets.0 c.in-Meets.is) in
    let allowed : IsAllowed (shape_of p) s =
    subst (λ (g : Shape). IsAllowed g s) shapes c.in_default-clash.ensures in
    let w : Network =
    record {
      units = c.args.units;
      sizes = c.args.sizes.now;
      d = c.args.d;
      cost =
          c.args.cost;
    } in
    subst (λ (q : Problem). ClaimFails partial q (network w) causes.Cost)
    c.problem-problem.ensures.same
    (inr (
      structure,
      inr (
        allowed,
        inr (
          c.in-Ok.ensures.in_range,
          inr (
            (simp to_z-of_z at c.in-Ok.ensures.value).0 c.if-not-holds.false,
            inr (
              (simp to_z-of_z at c.in-Ok-cost_of.ensures.in_range),
              inl (
                refl,
                (λ e. both_ways c.are_same.result c.if-are_same.false
                    (c.are_same.ensures.1
                    (total
                    ∙ ((simp to_z-of_z at c.in-Ok-cost_of.ensures.value) ∙ (e ∙ sym claimed))))),
              ),
            ),
          ),
        ),
      ),
    ))
