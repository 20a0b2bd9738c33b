-- The walk over the knees of a unit.
use Rattle.std.proofs.Common.{◌≡◌, ℕ, ◌+◌, ◌*◌, ◌-◌, ◌≤◌, Bool, true, false, cond, refl, sym, ap}
use Rattle.std.proofs.Common.{◌∙◌, arith, pos, ℤ, ◌+ℤ◌, ◌-ℤ◌, ◌*ℤ◌, List, [], ◌∷◌, ◌++◌, length}
use Rattle.std.proofs.Common.{map}
use Rattle.std.specs.Prelude.{not, ◌==◌}
use Rattle.std.specs.Ordering.{int_eq}
use Rattle.std.proofs.lemmas.Int.{ints}
use Rattle.std.proofs.lemmas.Bool.{both_ways}
use Rattle.structure_list.specs.number_sets.Sets.{kept, IsRising}
use Rattle.structure_list.specs.flow_rules.Steps.{AreInRange, IsFirstPast}
use Rattle.structure_list.proofs.flow_rules.Cited.{Leads, leads_none, leads_part, leads_past_in}
use Rattle.structure_list.proofs.flow_rules.Cited.{leads_all}
use Rattle.structure_list.proofs.flow_rules.Cited.{leads_same, int_eq_zero, int_eq_other, zero_from}
use Rattle.structure_list.specs.flow_rules.Charge.{Knee, Owed, sorted, counted, bend, bent}
use Rattle.structure_list.specs.flow_rules.ChargeSteps.{knee_steps}
use Rattle.charges.specs.Bends.{three_steps}
use Rattle.charges.specs.Firsts.{IsFirstLeast}
use Rattle.charges.proofs.KneeLemmas.{sorted_first, first_counts}

pub record IsBentSoFar (low high : ℤ) (k : ℕ → Knee) (set : List ℕ) (owed now : Owed) (start at : ℕ)
    (left : List ℕ) : Type 0 where
  pub room : at + 3 * length left ≤ start + 3 * length set
  pub value : bent low high (sorted (map k left)) now ≡ bent low high (sorted (map k set)) owed
  pub steps : Leads (knee_steps low high (sorted (map k set)) owed)
      (knee_steps low high (sorted (map k left)) now) start at

pub bent_begins : (low high : ℤ) (k : ℕ → Knee) (set : List ℕ) (owed : Owed) (start : ℕ)
    → IsBentSoFar low high k set owed owed start start set
bent_begins low high k set owed start =
    record {
      room = omega arith;
      value = refl;
      steps =
          leads_none (knee_steps low high (sorted (map k set)) owed) start;
    }

pub bent_room : (low high : ℤ) (k : ℕ → Knee) (set : List ℕ) (owed now : Owed) (start at : ℕ)
    (left : List ℕ) → length set ≤ 256 → IsBentSoFar low high k set owed now start at left
    → (at ≤ start + 768) × (start ≤ at)
bent_room low high k set owed now start at left few h = let r = h.room in let f =
    h.steps.from_start in (omega arith, f)

pub bent_ends : (low high : ℤ) (k : ℕ → Knee) (set : List ℕ) (owed now : Owed) (start at : ℕ)
    (left : List ℕ) → left ≡ [] → IsBentSoFar low high k set owed now start at left
    → (now ≡ bent low high (sorted (map k set)) owed)
    × AreInRange (knee_steps low high (sorted (map k set)) owed)
    × (at ≡ start + length (knee_steps low high (sorted (map k set)) owed))
bent_ends low high k set owed now start at left e h =
    let none : knee_steps low high (sorted (map k left)) now ≡ [] =
    ap (λ (js : List ℕ). knee_steps low high (sorted (map k js)) now) e in
    let all = leads_same (knee_steps low high (sorted (map k set)) owed)
    (knee_steps low high (sorted (map k left)) now) [] start at none h.steps in
    let count = all.count in (
      ap (λ (js : List ℕ). bent low high (sorted (map k js)) now) (sym e) ∙ h.value,
      leads_all (knee_steps low high (sorted (map k set)) owed) start at all,
      omega arith,
    )

zero_each : (a c : ℤ) → c ≡ pos 0 → a +ℤ c ≡ a
zero_each a c e = omega (arith, ints)

zero_once : (a c s : ℤ) → c ≡ pos 0 → a -ℤ c *ℤ s ≡ a
zero_once a c s e = rw e (omega (arith, ints))

module _ (low high : ℤ) (k : ℕ → Knee) (set : List ℕ) (owed now : Owed) (start at : ℕ)
    (left : List ℕ) (j : ℕ) (rest : List ℕ)
    (rising : IsRising left) (first : IsFirstLeast (λ i. (k i).at) j left)
    (rest_is : rest ≡ kept (λ v. not (j == v)) left)
    (part : ℤ) (part_is : part ≡ counted low high now.each (k j))
    (h : IsBentSoFar low high k set owed now start at left) where
  next_is : sorted (map k left) ≡ k j ∷ sorted (map k rest)
  next_is = sorted_first k j left rising first ∙ ap (λ (js : List ℕ). k j ∷ sorted (map k js))
      (sym rest_is)

  shorter : length left ≡ 1 + length rest
  shorter = let c = first_counts (λ i. (k i).at) j left rising first in let e : length rest
      ≡ length (kept (λ v. not (j == v)) left) = ap (λ (js : List ℕ). length js) rest_is in
      omega arith

  pub less : length rest + 1 ≡ length left
  less = let s = shorter in omega arith

  pub none_counts : part ≡ pos 0 → IsBentSoFar low high k set owed now start at rest
  none_counts zero = record {
    room = let r = h.room in let s = shorter in omega arith;
    value = ap (λ o. bent low high (sorted (map k rest)) o) (sym same)
        ∙ ap (λ ks. bent low high ks now) (sym next_is) ∙ h.value;
    steps = leads_same _ _ _ start at
        (ap (λ ks. knee_steps low high ks now) next_is
        ∙ ap
        (λ b. cond b []
        ((counted low high now.each (k j) *ℤ (k j).at)
        ∷ (now.once -ℤ counted low high now.each (k j) *ℤ (k j).at)
        ∷ (now.each +ℤ counted low high now.each (k j)) ∷ [])
        ++ knee_steps low high (sorted (map k rest)) (bend low high now (k j)))
        (int_eq_zero (counted low high now.each (k j)) none)
        ∙ ap (λ o. knee_steps low high (sorted (map k rest)) o) same) h.steps;
  }
    where
      none : counted low high now.each (k j) ≡ pos 0
      none = sym part_is ∙ zero

      same : bend low high now (k j) ≡ now
      same =
          λ i. record {
            each = zero_each now.each (counted low high now.each (k j)) none i;
            once =
                zero_once now.once (counted low high now.each (k j)) (k j).at none i;
          }

  module _ (some : part ≡ pos 0 → ⊥) where
    next_steps : knee_steps low high (sorted (map k left)) now ≡ three_steps part (k j).at now.each
        now.once ++ knee_steps low high (sorted (map k rest))
        (record { each = now.each +ℤ part; once = now.once -ℤ part *ℤ (k j).at })
    next_steps = ap (λ ks. knee_steps low high ks now) next_is
        ∙ ap
        (λ b. cond b []
        ((counted low high now.each (k j) *ℤ (k j).at)
        ∷ (now.once -ℤ counted low high now.each (k j) *ℤ (k j).at)
        ∷ (now.each +ℤ counted low high now.each (k j)) ∷ [])
        ++ knee_steps low high (sorted (map k rest)) (bend low high now (k j)))
        (int_eq_other (counted low high now.each (k j)) (λ e. some (part_is ∙ e)))
        ∙ ap (λ c. ((c *ℤ (k j).at) ∷ (now.once -ℤ c *ℤ (k j).at) ∷ (now.each +ℤ c) ∷ [])
        ++ knee_steps low high (sorted (map k rest))
        (record { each = now.each +ℤ c; once = now.once -ℤ c *ℤ (k j).at })) (sym part_is)

    knee_leads : Leads (knee_steps low high (sorted (map k set)) owed)
        (three_steps part (k j).at now.each now.once ++ knee_steps low high (sorted (map k rest))
        (record { each = now.each +ℤ part; once = now.once -ℤ part *ℤ (k j).at })) start at
    knee_leads = leads_same _ _ _ start at next_steps h.steps

    pub knee_past : (n : ℕ) → at ≤ n → IsFirstPast (three_steps part (k j).at now.each now.once)
        (n - at) → IsFirstPast (knee_steps low high (sorted (map k set)) owed) (n - start)
    knee_past n le p =
        let from = h.steps.from_start in
        leads_past_in (knee_steps low high (sorted (map k set)) owed)
        (three_steps part (k j).at now.each now.once)
        (knee_steps low high (sorted (map k rest))
        (record { each = now.each +ℤ part; once = now.once -ℤ part *ℤ (k j).at })) start
        at (n - at) (n - start) knee_leads p (omega arith)

    pub knee_counts : (each once : ℤ) → each ≡ now.each +ℤ part → once ≡ now.once -ℤ part
        *ℤ (k j).at → AreInRange (three_steps part (k j).at now.each now.once)
        → IsBentSoFar low high k set owed (record { each = each; once = once }) start (at + 3) rest
    knee_counts each once e o f = record {
      room = let r = h.room in let s = shorter in omega arith;
      value = (λ i. bent low high (sorted (map k rest)) (record { each = e i; once = o i }))
          ∙ ap
          (λ c. bent low high (sorted (map k rest))
          (record { each = now.each +ℤ c; once = now.once -ℤ c *ℤ (k j).at })) part_is
          ∙ ap (λ ks. bent low high ks now) (sym next_is) ∙ h.value;
      steps =
          leads_same _ _ _ start (at + 3)
          (λ i. knee_steps low high (sorted (map k rest))
          (record { each = sym e i; once = sym o i }))
          (leads_part (knee_steps low high (sorted (map k set)) owed)
          (three_steps part (k j).at now.each now.once)
          (knee_steps low high (sorted (map k rest))
          (record { each = now.each +ℤ part; once = now.once -ℤ part *ℤ (k j).at })) start
          at knee_leads f);
    }

pub is_more : (part : ℤ) (b : Bool) → b ≡ not (int_eq part (pos 0)) → b ≡ true → part ≡ pos 0 → ⊥
is_more part b e t z = let f : true ≡ not true = sym t ∙ e ∙ ap not (int_eq_zero part z) in
    absurd (both_ways false refl (sym f))

pub is_none : (part : ℤ) (b : Bool) → b ≡ not (int_eq part (pos 0)) → b ≡ false → part ≡ pos 0
is_none part b e f = zero_from part (at (int_eq part (pos 0)) (sym f ∙ e))
  where
    at : (t : Bool) → false ≡ not t → t ≡ true
    at true h = refl
    at false h = absurd (both_ways false refl h)
