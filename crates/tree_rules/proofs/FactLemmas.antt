-- Facts with another least or greatest size of one unit, with another greatest use of a material,
-- or with a use that is asked for; and the flows that fit them.
use Rattle.std.proofs.Common.{◌≡◌, ℕ, ◌==◌, refl, sym, subst, pos, ℤ, ◌*ℤ◌, ◌≤ℤ◌, Bool, true, false}
use Rattle.std.proofs.Common.{cond, eqb-true}
use Rattle.std.specs.Prelude.{Option, Some, IfSome}
use Rattle.flow_rules.specs.Net.{Net, million}
use Rattle.flow_rules.specs.ChargeFacts.{Demand, Facts, AreFacts, Fit, use_of}
use Rattle.tree_rules.specs.Head.{with_least, with_most, with_used, with_demand}

-- what holds of the value of the one number and of all others
pub of_one : {X : Type 0} (b : Bool) (P : X → Type 0) (x y : X) → (b ≡ true → P x) → P y
    → P (cond b x y)
of_one true P x y h k = h refl
of_one false P x y h k = k

pub with_most_facts : (net : Net) (f : Facts) → AreFacts net f → (u : ℕ) (v : ℤ)
    → f.least u ≤ℤ v → AreFacts net (with_most f u v)
with_most_facts net f facts u v h = record {
  not_negative = λ i l. facts.not_negative i l;
  ordered = λ i l.
      of_one (u == i) (λ x. f.least i ≤ℤ x) v (f.most i)
      (λ e. subst (λ (k : ℕ). f.least k ≤ℤ v) (eqb-true u i e) h) (facts.ordered i l);
  some_used = λ j l. facts.some_used j l;
  some_worth = facts.some_worth;
}

pub with_least_facts : (net : Net) (f : Facts) → AreFacts net f → (u : ℕ) (v : ℤ)
    → pos 0 ≤ℤ v → v ≤ℤ f.most u → AreFacts net (with_least f u v)
with_least_facts net f facts u v p h = record {
  not_negative = λ i l.
      of_one (u == i) (λ x. pos 0 ≤ℤ x) v (f.least i) (λ e. p) (facts.not_negative i l);
  ordered = λ i l.
      of_one (u == i) (λ x. x ≤ℤ f.most i) v (f.least i)
      (λ e. subst (λ (k : ℕ). v ≤ℤ f.most k) (eqb-true u i e) h) (facts.ordered i l);
  some_used = λ j l. facts.some_used j l;
  some_worth = facts.some_worth;
}

pub with_used_facts : (net : Net) (f : Facts) → AreFacts net f → (j : ℕ) (v : ℤ) → pos 0 ≤ℤ v
    → AreFacts net (with_used f j v)
with_used_facts net f facts j v p = record {
  not_negative = λ i l. facts.not_negative i l;
  ordered = λ i l. facts.ordered i l;
  some_used = λ m l.
      of_one (j == m) (λ (o : Option ℤ). IfSome o (λ x. pos 0 ≤ℤ x)) (Some v) (f.used m) (λ e. p)
      (facts.some_used m l);
  some_worth = facts.some_worth;
}

pub with_demand_facts : (net : Net) (f : Facts) → AreFacts net f → (q : Demand)
    → pos 0 ≤ℤ q.worth → AreFacts net (with_demand f q)
with_demand_facts net f facts q p = record {
  not_negative = λ i l. facts.not_negative i l;
  ordered = λ i l. facts.ordered i l;
  some_used = λ j l. facts.some_used j l;
  some_worth = p;
}

pub with_most_fit : (net : Net) (f : Facts) (s : ℕ → Bool) (z : ℕ → ℤ) (d : ℤ) → Fit net f s z d
    → (u : ℕ) (v : ℤ) → (s u ≡ true → z u ≤ℤ (v *ℤ d)) → Fit net (with_most f u v) s z d
with_most_fit net f s z d fit u v h = record {
  at_least = λ i l e. fit.at_least i l e;
  at_most = λ i l e.
      of_one (u == i) (λ x. z i ≤ℤ (x *ℤ d)) v (f.most i)
      (λ q. subst (λ (k : ℕ). z k ≤ℤ (v *ℤ d)) (eqb-true u i q)
      (h (subst (λ (k : ℕ). s k ≡ true) (sym (eqb-true u i q)) e))) (fit.at_most i l e);
  used = λ j l. fit.used j l;
  demand = fit.demand;
}

pub with_least_fit : (net : Net) (f : Facts) (s : ℕ → Bool) (z : ℕ → ℤ) (d : ℤ) → Fit net f s z d
    → (u : ℕ) (v : ℤ) → (v *ℤ d) ≤ℤ z u → Fit net (with_least f u v) s z d
with_least_fit net f s z d fit u v h = record {
  at_least = λ i l e.
      of_one (u == i) (λ x. (x *ℤ d) ≤ℤ z i) v (f.least i)
      (λ q. subst (λ (k : ℕ). (v *ℤ d) ≤ℤ z k) (eqb-true u i q) h) (fit.at_least i l e);
  at_most = λ i l e. fit.at_most i l e;
  used = λ j l. fit.used j l;
  demand = fit.demand;
}

pub with_used_fit : (net : Net) (f : Facts) (s : ℕ → Bool) (z : ℕ → ℤ) (d : ℤ) → Fit net f s z d
    → (j : ℕ) (v : ℤ) → use_of net s z j ≤ℤ (million *ℤ v *ℤ d) → Fit net (with_used f j v) s z d
with_used_fit net f s z d fit j v h = record {
  at_least = λ i l e. fit.at_least i l e;
  at_most = λ i l e. fit.at_most i l e;
  used = λ m l.
      of_one (j == m) (λ (o : Option ℤ). IfSome o (λ x. use_of net s z m ≤ℤ (million *ℤ x *ℤ d)))
      (Some v) (f.used m)
      (λ e. subst (λ (k : ℕ). use_of net s z k ≤ℤ (million *ℤ v *ℤ d)) (eqb-true j m e) h)
      (fit.used m l);
  demand = fit.demand;
}

pub with_demand_fit : (net : Net) (f : Facts) (s : ℕ → Bool) (z : ℕ → ℤ) (d : ℤ) → Fit net f s z d
    → (q : Demand) → (million *ℤ q.amount *ℤ d) ≤ℤ use_of net s z q.of
    → Fit net (with_demand f q) s z d
with_demand_fit net f s z d fit q h = record {
  at_least = λ i l e. fit.at_least i l e;
  at_most = λ i l e. fit.at_most i l e;
  used = λ j l. fit.used j l;
  demand = h;
}
