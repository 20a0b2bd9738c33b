use Rattle.std.proofs.Common.{◌↔◌, Option, IsTrue, refl, false, inl, inr, sym, subst, arith}
use Rattle.std.proofs.lemmas.Bool.{both_ways}
use Rattle.std.proofs.lemmas.Int.{ints, to_z-of_z}
use Rattle.tree_text_rules.specs.flow_rules.ChargeLeaf.{ChargeReaches}
use Rattle.tree_text_rules.specs.tree_rules.Claim.{IsAtLeast}
use Rattle.charges.specs.exact_numbers.declared.cost.CostOver.{CostOver}
use Rattle.cert_check.specs.Shown.{cost_over}
use Rattle.cert_check.proofs.charge.reaches.Goals as goal

pub returns-then-not-is_scale : goal.returns-then-not-is_scale
returns-then-not-is_scale c =
    let d_fits = c.ranges.d in
    let charge_fits = c.ranges.charge in
    let test = simp to_z-of_z at c.is_scale.ensures in
    let above = simp to_z-of_z at c.is_above.ensures in (
      (λ h. inr (above.0 h)),
      (λ r. elim r [
        | inl k ↦ absurd (both_ways c.is_scale.result c.if-not-is_scale.true (test.1 k.0))
        | inr k ↦ above.1 k
      ]),
    )

pub returns-in-Some : goal.returns-in-Some
returns-in-Some c =
    let d_fits = c.ranges.d in
    let charge_fits = c.ranges.charge in
    let test = simp to_z-of_z at c.is_scale.ensures in
    let reached = simp to_z-of_z at c.is_reached.ensures in
    let scale = test.0 c.if-not-is_scale.false in
    subst
    (λ (o : Option CostOver). IsTrue c.is_reached.result
    ↔ ChargeReaches (IsAtLeast (cost_over o)) c.args.charge c.args.d) (sym c.in-Some.is) (
      (λ h. inl (scale, reached.0 h)),
      (λ r. elim r [
        | inl k ↦ reached.1 k.1
        | inr k ↦ absurd (let none = k.0 in omega (arith, ints, none, scale))
      ]),
    )

pub returns-in-None : goal.returns-in-None
returns-in-None c =
    let d_fits = c.ranges.d in
    let test = simp to_z-of_z at c.is_scale.ensures in
    let scale = test.0 c.if-not-is_scale.false in
    subst
    (λ (o : Option CostOver). IsTrue false
    ↔ ChargeReaches (IsAtLeast (cost_over o)) c.args.charge c.args.d) (sym c.in-None.is) (
      (λ h. absurd (both_ways false refl h)),
      (λ r. elim r [
        | inl k ↦ absurd k.1
        | inr k ↦ absurd (let none = k.0 in omega (arith, ints, none, scale))
      ]),
    )
