use Rattle.std.proofs.Common.{subst, sym, refl, inl, inr, pos}
use Rattle.std.proofs.lemmas.Bool.{both_ways}
use Rattle.tree_text_rules.specs.problem_rules.Problem.{Problem}
use Rattle.charges.specs.pgraph.View.{node_of}
use Rattle.tree_text_rules.specs.flow_rules.Net.{net_of}
use Rattle.tree_text_rules.specs.flow_rules.Relaxed.{Refutes}
use Rattle.tree_text_rules.specs.flow_rules.Steps.{AreInRange, IsFirstPast}
use Rattle.tree_text_rules.specs.flow_rules.BoundSteps.{bound_steps}
use Rattle.tree_text_rules.proofs.flow_rules.Cited.{not_both}
use Rattle.tree_text_rules.specs.tree_rules.Leaf.{multiplier}
use Rattle.cert_check.proofs.leaves.judge_refutation.Goals as goal

pub returns-in-Err-clause-fails : goal.returns-in-Err-clause-fails
returns-in-Err-clause-fails c = λ partial claimed.
    let p = c.args.site.now in
    let n = node_of c.args.node.now in
    let past =
    subst
    (λ (q : Problem). IsFirstPast
    (bound_steps (net_of q) n (pos 0) (multiplier q n c.args.ys.now)) c.in-Err.field-0.at)
    c.problem.ensures.same c.in-Err.ensures.past in
    inr (
      c.is_one_each.ensures.0 c.if-not-is_one_each.false,
      inl (
        refl,
        (λ r. not_both (bound_steps (net_of p) n (pos 0) (multiplier p n c.args.ys.now))
            c.in-Err.field-0.at r past),
      ),
    )

pub returns-in-Ok-true-clause-passes : goal.returns-in-Ok-true-clause-passes
returns-in-Ok-true-clause-passes c = λ partial claimed.
    let n = node_of c.args.node.now in
    let ys = c.args.ys.now in
    record {
      each_row = c.is_one_each.ensures.0 c.if-not-is_one_each.false;
      formed =
          subst (λ (q : Problem). AreInRange (bound_steps (net_of q) n (pos 0) (multiplier q n ys)))
          c.problem.ensures.same c.in-Ok-true.ensures.in_range;
      refutes =
          subst (λ (q : Problem). Refutes (net_of q) n (multiplier q n ys)) c.problem.ensures.same
          (c.in-Ok-true.ensures.value.0 c.in-Ok-true.field-0-test);
    }

pub returns-in-Ok-false-clause-fails : goal.returns-in-Ok-false-clause-fails
returns-in-Ok-false-clause-fails c = λ partial claimed.
    let n = node_of c.args.node.now in
    let ys = c.args.ys.now in
    let formed =
    subst (λ (q : Problem). AreInRange (bound_steps (net_of q) n (pos 0) (multiplier q n ys)))
    c.problem.ensures.same c.in-Ok-false.ensures.in_range in
    inr (
      c.is_one_each.ensures.0 c.if-not-is_one_each.false,
      inr (
        formed,
        inl (
          refl,
          (λ r. both_ways c.in-Ok-false.field-0 c.in-Ok-false.field-0-test
              (c.in-Ok-false.ensures.value.1
              (subst (λ (q : Problem). Refutes (net_of q) n (multiplier q n ys))
              (sym c.problem.ensures.same) r))),
        ),
      ),
    )
