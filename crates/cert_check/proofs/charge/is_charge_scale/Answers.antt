use Rattle.std.proofs.Common.{◌↔◌, Option, IsTrue, inl, inr, sym, subst}
use Rattle.std.proofs.lemmas.Int.{to_z-of_z}
use Rattle.tree_text_rules.specs.flow_rules.ChargeLeaf.{IsScale}
use Rattle.tree_text_rules.specs.tree_rules.Leaf.{IsClaimed}
use Rattle.charges.specs.exact_numbers.declared.cost.CostOver.{CostOver}
use Rattle.cert_check.specs.Shown.{cost_over}
use Rattle.cert_check.proofs.ChargeLemmas.{zero_or_more, not_below}
use Rattle.cert_check.proofs.charge.is_charge_scale.Goals as goal

pub returns-in-Some : goal.returns-in-Some
returns-in-Some c =
    let fits = c.ranges.d in
    let test = simp to_z-of_z at c.is_not_negative.ensures in
    subst
    (λ (o : Option CostOver). IsTrue c.is_not_negative.result
    ↔ IsScale (IsClaimed (cost_over o)) c.args.d) (sym c.in-Some.is) (
      (λ h. elim (zero_or_more c.args.d (test.0 h)) [ inl e ↦ inl e | inr m ↦ inr (m, tt) ]),
      (λ s. test.1 (not_below c.args.d s)),
    )

pub returns-in-None : goal.returns-in-None
returns-in-None c =
    let fits = c.ranges.d in
    let test = simp to_z-of_z at c.is_zero.ensures in
    subst
    (λ (o : Option CostOver). IsTrue c.is_zero.result
    ↔ IsScale (IsClaimed (cost_over o)) c.args.d) (sym c.in-None.is) (
      (λ h. inl (test.0 h)),
      (λ s. elim s [ inl e ↦ test.1 e | inr m ↦ absurd m.1 ]),
    )
