-- The steps of a unit, put together: what it owes, its knees and sizes, and the sum.
use Rattle.std.proofs.Common.{◌≡◌, ℕ, ◌+◌, ◌-◌, ◌≤◌, ap, ◌∙◌, subst, arith, ℤ, ◌+ℤ◌, List, ◌++◌}
use Rattle.std.proofs.Common.{length}
use Rattle.std.proofs.lemmas.List.{length-append}
use Rattle.structure_list.specs.flow_rules.Steps.{AreInRange, IsFirstPast}
use Rattle.structure_list.proofs.flow_rules.Cited.{IsFirstPast-left, IsFirstPast-right}
use Rattle.structure_list.proofs.flow_rules.Cited.{AreInRange-append}
use Rattle.structure_list.specs.flow_rules.Charge.{Knee, Owed, or_none}
use Rattle.structure_list.specs.flow_rules.ChargeSteps.{sum_steps}
use Rattle.charges.specs.Columns.{owed_in, owed_steps, bent_steps, charge_in, column_steps}
use Rattle.charges.specs.declared.unit.Terms.{Terms}

module _ (t : Terms) (ks : List Knee) (d : ℤ) (y rate : ℕ → ℤ) (js : List ℕ) (sum : ℤ)
    (start at : ℕ) (o : Owed) (value : o ≡ owed_in t d y rate js)
    (fit : AreInRange (owed_steps t d y rate js))
    (count : at ≡ start + length (owed_steps t d y rate js)) where
  pub bent_past : (n : ℕ) → at ≤ n → IsFirstPast (bent_steps t.sizes.low t.sizes.high ks o) (n - at)
      → IsFirstPast (column_steps t ks d y rate js sum) (n - start)
  bent_past n le h =
      subst
      (λ (q : Owed). IsFirstPast (owed_steps t d y rate js
      ++
      (bent_steps t.sizes.low t.sizes.high ks q
      ++ sum_steps t.is_in (charge_in t.sizes.low t.sizes.high ks q) sum)) (n - start)) value
      (IsFirstPast-right (owed_steps t d y rate js)
      (bent_steps t.sizes.low t.sizes.high ks o
      ++ sum_steps t.is_in (charge_in t.sizes.low t.sizes.high ks o) sum) (n - at) (n - start)
      (omega arith) fit
      (IsFirstPast-left (bent_steps t.sizes.low t.sizes.high ks o)
      (sum_steps t.is_in (charge_in t.sizes.low t.sizes.high ks o) sum) (n - at) h))

  module _ (part : ℤ) (next : ℕ) (part_is : part ≡ charge_in t.sizes.low t.sizes.high ks o)
      (bent_fit : AreInRange (bent_steps t.sizes.low t.sizes.high ks o))
      (bent_count : next ≡ at + length (bent_steps t.sizes.low t.sizes.high ks o)) where
    pub part_past : (n : ℕ) → next ≤ n → IsFirstPast (sum_steps t.is_in part sum) (n - next)
        → IsFirstPast (column_steps t ks d y rate js sum) (n - start)
    part_past n le h =
        subst
        (λ (q : Owed). IsFirstPast (owed_steps t d y rate js
        ++
        (bent_steps t.sizes.low t.sizes.high ks q
        ++ sum_steps t.is_in (charge_in t.sizes.low t.sizes.high ks q) sum)) (n - start)) value
        (IsFirstPast-right (owed_steps t d y rate js)
        (bent_steps t.sizes.low t.sizes.high ks o
        ++ sum_steps t.is_in (charge_in t.sizes.low t.sizes.high ks o) sum) (n - at) (n - start)
        (omega arith) fit
        (IsFirstPast-right (bent_steps t.sizes.low t.sizes.high ks o)
        (sum_steps t.is_in (charge_in t.sizes.low t.sizes.high ks o) sum) (n - next) (n - at)
        (omega arith) bent_fit
        (subst (λ (z : ℤ). IsFirstPast (sum_steps t.is_in z sum) (n - next)) part_is h)))

    pub column_fit : AreInRange (sum_steps t.is_in part sum)
        → AreInRange (column_steps t ks d y rate js sum)
    column_fit h =
        subst
        (λ (q : Owed). AreInRange (owed_steps t d y rate js
        ++
        (bent_steps t.sizes.low t.sizes.high ks q
        ++ sum_steps t.is_in (charge_in t.sizes.low t.sizes.high ks q) sum))) value
        (AreInRange-append (owed_steps t d y rate js)
        (bent_steps t.sizes.low t.sizes.high ks o
        ++ sum_steps t.is_in (charge_in t.sizes.low t.sizes.high ks o) sum) fit
        (AreInRange-append (bent_steps t.sizes.low t.sizes.high ks o)
        (sum_steps t.is_in (charge_in t.sizes.low t.sizes.high ks o) sum) bent_fit
        (subst (λ (z : ℤ). AreInRange (sum_steps t.is_in z sum)) part_is h)))

    pub column_count : (to : ℕ) → to ≡ next + length (sum_steps t.is_in part sum) → to ≡ start
        + length (column_steps t ks d y rate js sum)
    column_count to e =
        subst
        (λ (q : Owed). to ≡ start
        + length (owed_steps t d y rate js
        ++
        (bent_steps t.sizes.low t.sizes.high ks q
        ++ sum_steps t.is_in (charge_in t.sizes.low t.sizes.high ks q) sum))) value
        (let a = length-append (owed_steps t d y rate js)
        (bent_steps t.sizes.low t.sizes.high ks o
        ++ sum_steps t.is_in (charge_in t.sizes.low t.sizes.high ks o) sum) in
        let b = length-append (bent_steps t.sizes.low t.sizes.high ks o)
        (sum_steps t.is_in (charge_in t.sizes.low t.sizes.high ks o) sum) in
        let s : length (sum_steps t.is_in part sum)
        ≡ length (sum_steps t.is_in (charge_in t.sizes.low t.sizes.high ks o) sum) =
        ap (λ (z : ℤ). length (sum_steps t.is_in z sum)) part_is in
        omega arith)

    pub column_value : (z : ℤ) → z ≡ sum +ℤ or_none t.is_in part → z ≡ sum
        +ℤ or_none t.is_in
        (charge_in t.sizes.low t.sizes.high ks
        (owed_in t d y rate js))
    column_value z e = e ∙ ap (λ (p : ℤ). sum +ℤ or_none t.is_in p) part_is
        ∙ ap (λ (q : Owed). sum +ℤ or_none t.is_in (charge_in t.sizes.low t.sizes.high ks q)) value
