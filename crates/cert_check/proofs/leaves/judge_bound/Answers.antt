use Rattle.std.proofs.Common.{◌≡◌, refl, sym, subst, inl, inr, ℤ, ◌*ℤ◌, ◌≤ℤ◌, Option, Some, rules}
use Rattle.std.proofs.Common.{SFits, to_z, of_z}
use Rattle.std.specs.Int.{w128}
use Rattle.std.proofs.lemmas.Bool.{both_ways}
use Rattle.std.proofs.lemmas.Int.{to_z-of_z}
use Rattle.charges.specs.pgraph.View.{node_of}
use Rattle.tree_text_rules.specs.problem_rules.Problem.{Problem}
use Rattle.tree_text_rules.specs.flow_rules.Net.{net_of}
use Rattle.tree_text_rules.specs.flow_rules.Relaxed.{bound}
use Rattle.tree_text_rules.specs.flow_rules.Steps.{AreInRange, IsFirstPast}
use Rattle.tree_text_rules.specs.flow_rules.BoundSteps.{bound_steps}
use Rattle.tree_text_rules.proofs.flow_rules.Cited.{not_both}
use Rattle.tree_text_rules.specs.tree_rules.declared.why.Why.TheVariants as causes
use Rattle.tree_text_rules.specs.tree_rules.Leaf.{multiplier, bounded, LeafPasses, LeafFails}
use Rattle.charges.specs.exact_numbers.declared.cost.CostOver.{CostOver}
use Rattle.cert_check.specs.Shown.{cost_over}
use Rattle.cert_check.proofs.leaves.judge_bound.Goals as goal

pub returns-in_default-bound_of-clause-fails : goal.returns-in_default-bound_of-clause-fails
returns-in_default-bound_of-clause-fails c = λ partial.
    let p = c.args.site.now in
    let n = node_of c.args.node.now in
    let d : ℤ = to_z w128 (of_z w128 c.args.d) in
    let d_is : d ≡ c.args.d = to_z-of_z w128 c.args.d c.ranges.d in
    subst
    (λ (o : Option CostOver). LeafFails partial p (cost_over o) n
    (bounded c.args.d c.args.ys.now) causes.Sum) (sym c.in-Some.is)
    (subst
    (λ (e : ℤ). LeafFails partial p (cost_over (Some c.in-Some.least)) n
    (bounded e c.args.ys.now) causes.Sum) d_is
    (inr (
      (
        tt,
        c.is_scale.ensures.0 c.if-not-is_scale.false,
        c.is_one_each.ensures.0 c.if-not-is_one_each.false,
      ),
      inl (
        refl,
        (λ r. let past : IsFirstPast (bound_steps (net_of p) n d (multiplier p n c.args.ys.now))
            c.in_default-bound_of.field-0.at =
            subst
            (λ (q : Problem). IsFirstPast
            (bound_steps (net_of q) n d (multiplier q n c.args.ys.now))
            c.in_default-bound_of.field-0.at) c.problem.ensures.same
            c.in_default-bound_of.ensures.past in
            not_both (bound_steps (net_of p) n d (multiplier p n c.args.ys.now))
            c.in_default-bound_of.field-0.at r past),
      ),
    )))

pub returns-then-is_reached-clause-passes : goal.returns-then-is_reached-clause-passes
returns-then-is_reached-clause-passes c = λ partial.
    let p = c.args.site.now in
    let n = node_of c.args.node.now in
    let d : ℤ = to_z w128 (of_z w128 c.args.d) in
    let d_is : d ≡ c.args.d = to_z-of_z w128 c.args.d c.ranges.d in
    let fits : SFits w128 c.in-Ok.bound = search rules in
    let b_is : to_z w128 (of_z w128 c.in-Ok.bound) ≡ c.in-Ok.bound =
    to_z-of_z w128 c.in-Ok.bound fits in
    let formed : AreInRange (bound_steps (net_of p) n d (multiplier p n c.args.ys.now)) =
    subst (λ (q : Problem). AreInRange (bound_steps (net_of q) n d (multiplier q n c.args.ys.now)))
    c.problem.ensures.same c.in-Ok.ensures.in_range in
    let value : c.in-Ok.bound ≡ bound (net_of p) n d (multiplier p n c.args.ys.now) =
    subst (λ (q : Problem). c.in-Ok.bound ≡ bound (net_of q) n d (multiplier q n c.args.ys.now))
    c.problem.ensures.same c.in-Ok.ensures.value in
    subst
    (λ (o : Option CostOver). LeafPasses partial p (cost_over o) n
    (bounded c.args.d c.args.ys.now)) (sym c.in-Some.is)
    (subst
    (λ (e : ℤ). LeafPasses partial p (cost_over (Some c.in-Some.least)) n
    (bounded e c.args.ys.now)) d_is
    (record {
      positive = c.is_scale.ensures.0 c.if-not-is_scale.false;
      each_row = c.is_one_each.ensures.0 c.if-not-is_one_each.false;
      formed = formed;
      reaches =
          subst (λ (b : ℤ). (c.in-Some.least.cost *ℤ d) ≤ℤ (b *ℤ c.in-Some.least.d)) value
          (subst (λ (b : ℤ). (c.in-Some.least.cost *ℤ d) ≤ℤ (b *ℤ c.in-Some.least.d)) b_is
          (c.is_reached.ensures.0 c.if-is_reached.true));
    }))

pub returns-else-is_reached-clause-fails : goal.returns-else-is_reached-clause-fails
returns-else-is_reached-clause-fails c = λ partial.
    let p = c.args.site.now in
    let n = node_of c.args.node.now in
    let d : ℤ = to_z w128 (of_z w128 c.args.d) in
    let d_is : d ≡ c.args.d = to_z-of_z w128 c.args.d c.ranges.d in
    let fits : SFits w128 c.in-Ok.bound = search rules in
    let b_is : to_z w128 (of_z w128 c.in-Ok.bound) ≡ c.in-Ok.bound =
    to_z-of_z w128 c.in-Ok.bound fits in
    let formed : AreInRange (bound_steps (net_of p) n d (multiplier p n c.args.ys.now)) =
    subst (λ (q : Problem). AreInRange (bound_steps (net_of q) n d (multiplier q n c.args.ys.now)))
    c.problem.ensures.same c.in-Ok.ensures.in_range in
    let value : c.in-Ok.bound ≡ bound (net_of p) n d (multiplier p n c.args.ys.now) =
    subst (λ (q : Problem). c.in-Ok.bound ≡ bound (net_of q) n d (multiplier q n c.args.ys.now))
    c.problem.ensures.same c.in-Ok.ensures.value in
    subst
    (λ (o : Option CostOver). LeafFails partial p (cost_over o) n
    (bounded c.args.d c.args.ys.now) causes.Bound) (sym c.in-Some.is)
    (subst
    (λ (e : ℤ). LeafFails partial p (cost_over (Some c.in-Some.least)) n
    (bounded e c.args.ys.now) causes.Bound) d_is
    (inr (
      (
        tt,
        c.is_scale.ensures.0 c.if-not-is_scale.false,
        c.is_one_each.ensures.0 c.if-not-is_one_each.false,
      ),
      inr (
        formed,
        inl (
          refl,
          (λ r. both_ways c.is_reached.result c.if-is_reached.false
              (c.is_reached.ensures.1
              (subst (λ (b : ℤ). (c.in-Some.least.cost *ℤ d) ≤ℤ (b *ℤ c.in-Some.least.d))
              (sym b_is)
              (subst (λ (b : ℤ). (c.in-Some.least.cost *ℤ d) ≤ℤ (b *ℤ c.in-Some.least.d))
              (sym value) r)))),
        ),
      ),
    )))
