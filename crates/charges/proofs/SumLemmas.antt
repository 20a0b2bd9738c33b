-- A charge, put together from its parts.
use Rattle.std.proofs.Common.{◌≡◌, ℕ, ◌+◌, ◌-◌, ◌≤◌, ◌∙◌, subst, arith, pos, ℤ, ◌+ℤ◌, List, ◌++◌}
use Rattle.std.proofs.Common.{length}
use Rattle.std.specs.Prelude.{Option}
use Rattle.structure_list.specs.integer_laws.Total.{total}
use Rattle.structure_list.specs.pns_rules.Nodes.{Node}
use Rattle.structure_list.specs.flow_rules.Net.{Net}
use Rattle.structure_list.specs.flow_rules.Relaxed.{units, rows, row_part}
use Rattle.structure_list.specs.flow_rules.Steps.{AreInRange, IsFirstPast}
use Rattle.structure_list.specs.flow_rules.BoundSteps.{rows_steps}
use Rattle.structure_list.proofs.flow_rules.Cited.{IsFirstPast-left, IsFirstPast-right}
use Rattle.structure_list.proofs.flow_rules.Cited.{AreInRange-append}
use Rattle.structure_list.specs.flow_rules.ChargeFacts.{Demand, Facts}
use Rattle.structure_list.specs.flow_rules.Cover.{Cover, weights}
use Rattle.structure_list.specs.flow_rules.Charge.{demanded, unit_part, charge}
use Rattle.structure_list.specs.flow_rules.ChargeSteps.{demand_steps, weight_steps, paid_steps}
use Rattle.structure_list.specs.flow_rules.ChargeSteps.{units_steps}
use Rattle.structure_list.specs.flow_rules.ChargeSteps.{charge_steps}

-- y is read from a table, what is asked for from the facts, and the rows and units are listed
module _ (net : Net) (n : Node) (f : Facts) (d : ℤ) (table y : ℕ → ℤ) (ys : table ≡ y)
    (asked : Option Demand) (asked_is : asked ≡ f.demand)
    (covers : List Cover) (js us : List ℕ) (js_are : js ≡ rows net n)
    (us_are : us ≡ units net n) where
  -- the steps after the rows, and those after what is asked for
  abbrev after_asked : ℤ → List ℤ
  after_asked sum = weight_steps covers sum
      ++ (paid_steps (λ i. pos 0) covers ++ units_steps net n f d table covers us
      (sum +ℤ weights covers))

  abbrev after_rows : ℤ → List ℤ
  after_rows sum = demand_steps asked sum ++ after_asked (sum +ℤ demanded asked)

  steps_are : rows_steps net n table js (pos 0) ++ after_rows (total (row_part net n table) js)
      ≡ charge_steps net n f d y covers
  steps_are i = rows_steps net n (ys i) (js_are i) (pos 0)
      ++ (demand_steps (asked_is i) (total (row_part net n (ys i)) (js_are i))
      ++ (weight_steps covers (total (row_part net n (ys i)) (js_are i) +ℤ demanded (asked_is i))
      ++
      (paid_steps (λ i. pos 0) covers ++ units_steps net n f d (ys i) covers (us_are i)
      (total (row_part net n (ys i)) (js_are i) +ℤ demanded (asked_is i) +ℤ weights covers))))

  pub past_in_rows : (k : ℕ) → IsFirstPast (rows_steps net n table js (pos 0)) k
      → IsFirstPast (charge_steps net n f d y covers) k
  past_in_rows k h = subst (λ (zs : List ℤ). IsFirstPast zs k) steps_are
      (IsFirstPast-left (rows_steps net n table js (pos 0)) _ k h)

  module _ (rows_sum : ℤ) (a : ℕ) (sum_is : rows_sum ≡ total (row_part net n table) js)
      (a_is : a ≡ length (rows_steps net n table js (pos 0)))
      (rows_fit : AreInRange (rows_steps net n table js (pos 0))) where
    rows_first : rows_steps net n table js (pos 0) ++ after_rows rows_sum
        ≡ charge_steps net n f d y covers
    rows_first = (λ i. rows_steps net n table js (pos 0) ++ after_rows (sum_is i)) ∙ steps_are

    past_after_rows : (k : ℕ) → a ≤ k → IsFirstPast (after_rows rows_sum) (k - a)
        → IsFirstPast (charge_steps net n f d y covers) k
    past_after_rows k le h = subst (λ (zs : List ℤ). IsFirstPast zs k) rows_first
        (IsFirstPast-right (rows_steps net n table js (pos 0)) _ (k - a) k (omega arith) rows_fit h)

    pub past_in_worth : (k : ℕ) → a ≤ k → IsFirstPast (demand_steps asked rows_sum) (k - a)
        → IsFirstPast (charge_steps net n f d y covers) k
    past_in_worth k le h =
        past_after_rows k le (IsFirstPast-left (demand_steps asked rows_sum) _ (k - a) h)

    module _ (asked_sum : ℤ) (m : ℕ) (with_is : asked_sum ≡ rows_sum +ℤ demanded asked)
        (m_is : m ≡ a + length (demand_steps asked rows_sum))
        (asked_fit : AreInRange (demand_steps asked rows_sum)) where
      past_after_asked : (k : ℕ) → m ≤ k → IsFirstPast (after_asked asked_sum) (k - m)
          → IsFirstPast (charge_steps net n f d y covers) k
      past_after_asked k le h =
          past_after_rows k (omega arith)
          (IsFirstPast-right (demand_steps asked rows_sum) _ (k - m) (k - a) (omega arith)
          asked_fit (subst (λ (z : ℤ). IsFirstPast (after_asked z) (k - m)) with_is h))

      pub past_in_weights : (k : ℕ) → m ≤ k → IsFirstPast (weight_steps covers asked_sum) (k - m)
          → IsFirstPast (charge_steps net n f d y covers) k
      past_in_weights k le h =
          past_after_asked k le (IsFirstPast-left (weight_steps covers asked_sum) _ (k - m) h)

      module _ (sum : ℤ) (b : ℕ) (all_is : sum ≡ asked_sum +ℤ weights covers)
          (b_is : b ≡ m + length (weight_steps covers asked_sum))
          (weights_fit : AreInRange (weight_steps covers asked_sum)) where
        after_weights : (k : ℕ) → b ≤ k
            → IsFirstPast
            (paid_steps (λ i. pos 0) covers ++ units_steps net n f d table covers us
            (asked_sum +ℤ weights covers)) (k - b)
            → IsFirstPast (charge_steps net n f d y covers) k
        after_weights k le h =
            past_after_asked k (omega arith)
            (IsFirstPast-right (weight_steps covers asked_sum) _ (k - b) (k - m) (omega arith)
            weights_fit h)

        pub past_in_paid : (k : ℕ) → b ≤ k → IsFirstPast (paid_steps (λ i. pos 0) covers) (k - b)
            → IsFirstPast (charge_steps net n f d y covers) k
        past_in_paid k le h =
            after_weights k le (IsFirstPast-left (paid_steps (λ i. pos 0) covers) _ (k - b) h)

        module _ (c : ℕ) (c_is : c ≡ b + length (paid_steps (λ i. pos 0) covers))
            (paid_fit : AreInRange (paid_steps (λ i. pos 0) covers)) where
          pub past_in_units : (k : ℕ) → c ≤ k
              → IsFirstPast (units_steps net n f d table covers us sum) (k - c)
              → IsFirstPast (charge_steps net n f d y covers) k
          past_in_units k le h =
              after_weights k (omega arith)
              (IsFirstPast-right (paid_steps (λ i. pos 0) covers) _ (k - c) (k - b) (omega arith)
              paid_fit
              (subst (λ (z : ℤ). IsFirstPast (units_steps net n f d table covers us z) (k - c))
              all_is h))

          pub all_fit : AreInRange (units_steps net n f d table covers us sum)
              → AreInRange (charge_steps net n f d y covers)
          all_fit h = subst (λ (zs : List ℤ). AreInRange zs) rows_first
              (AreInRange-append (rows_steps net n table js (pos 0)) _ rows_fit
              (AreInRange-append (demand_steps asked rows_sum) _ asked_fit
              (subst (λ (z : ℤ). AreInRange (after_asked z)) with_is
              (AreInRange-append (weight_steps covers asked_sum) _ weights_fit
              (AreInRange-append (paid_steps (λ i. pos 0) covers) _ paid_fit
              (subst (λ (z : ℤ). AreInRange (units_steps net n f d table covers us z)) all_is
              h))))))

          pub charge_is : (x : ℤ) → x ≡ sum +ℤ total (unit_part net n f d table covers) us → x
              ≡ charge net n f d y covers
          charge_is x e = e ∙ (λ i. all_is i +ℤ total (unit_part net n f d table covers) us)
              ∙ (λ i. with_is i +ℤ weights covers +ℤ total (unit_part net n f d table covers) us)
              ∙ (λ i. sum_is i +ℤ demanded asked +ℤ weights covers
              +ℤ total (unit_part net n f d table covers) us)
              ∙ (λ i. total (row_part net n (ys i)) (js_are i) +ℤ demanded (asked_is i)
              +ℤ weights covers +ℤ total (unit_part net n f d (ys i) covers) (us_are i))
