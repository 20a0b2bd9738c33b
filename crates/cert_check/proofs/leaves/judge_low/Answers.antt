use Rattle.std.proofs.Common.{◌≡◌, ℤ, Some, refl, inl, inr, subst, to_z, of_z}
use Rattle.std.specs.Int.{w128}
use Rattle.std.proofs.lemmas.Int.{to_z-of_z}
use Rattle.charges.specs.pgraph.View.{node_of}
use Rattle.tree_text_rules.specs.problem_rules.Problem.{Problem}
use Rattle.tree_text_rules.specs.flow_rules.Net.{net_of}
use Rattle.tree_text_rules.specs.flow_rules.Steps.{AreInRange, IsFirstPast}
use Rattle.tree_text_rules.specs.flow_rules.BoundSteps.{bound_steps}
use Rattle.tree_text_rules.proofs.flow_rules.Cited.{not_both}
use Rattle.tree_text_rules.specs.tree_rules.declared.why.Why.TheVariants as causes
use Rattle.tree_text_rules.specs.tree_rules.Leaf.{multiplier, untried, LeafPasses, LeafFails}
use Rattle.cert_check.proofs.leaves.judge_low.Goals as goal

pub returns-clause-passes : goal.returns-clause-passes
returns-clause-passes c = λ claimed.
    let n = node_of c.args.node.now in
    let ys = c.args.ys.now in
    let d : ℤ = to_z w128 (of_z w128 c.args.d) in
    let d_is : d ≡ c.args.d = to_z-of_z w128 c.args.d c.ranges.d in
    subst
    (λ (e : ℤ). LeafPasses c.args.partial c.args.site.now claimed n
    (untried (Some (record { d = e; ys = ys })))) d_is (
      c.if-not-partial.false,
      record {
        positive = c.is_scale.ensures.0 c.if-not-is_scale.false;
        each_row = c.is_one_each.ensures.0 c.if-not-is_one_each.false;
        formed =
            subst (λ (q : Problem). AreInRange (bound_steps (net_of q) n d (multiplier q n ys)))
            c.problem.ensures.same c.in-Ok.ensures.in_range;
      },
    )

pub returns-in_default-clause-fails : goal.returns-in_default-clause-fails
returns-in_default-clause-fails c = λ claimed.
    let p = c.args.site.now in
    let n = node_of c.args.node.now in
    let ys = c.args.ys.now in
    let d : ℤ = to_z w128 (of_z w128 c.args.d) in
    let d_is : d ≡ c.args.d = to_z-of_z w128 c.args.d c.ranges.d in
    subst
    (λ (e : ℤ). LeafFails c.args.partial p claimed n
    (untried (Some (record { d = e; ys = ys }))) causes.Sum) d_is
    (inr (
      c.if-not-partial.false,
      inr (
        (
          c.is_scale.ensures.0 c.if-not-is_scale.false,
          c.is_one_each.ensures.0 c.if-not-is_one_each.false,
        ),
        inl (
          refl,
          (λ r. not_both (bound_steps (net_of p) n d (multiplier p n ys))
              c.in_default.field-0.at r
              (subst
              (λ (q : Problem). IsFirstPast (bound_steps (net_of q) n d (multiplier q n ys))
              c.in_default.field-0.at) c.problem.ensures.same
              c.in_default.ensures.past)),
        ),
      ),
    ))
