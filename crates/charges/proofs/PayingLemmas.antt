-- The outputs of a unit that pay, and their knees.
use Rattle.std.proofs.Common.{◌≡◌, ◌≢◌, ℕ, ◌<◌, ◌==◌, Bool, true, false, refl, sym, ap, ◌∙◌, subst}
use Rattle.std.proofs.Common.{arith, pos, ℤ, ◌*ℤ◌, List, [], length, get_or, set}
use Rattle.std.specs.Prelude.{◌&&◌, ◌||◌}
use Rattle.std.proofs.lemmas.List.{get_or-set_same, get_or-set_other, length-set}
use Rattle.std.proofs.lemmas.Bool.{eq-eqb, ne_eqb, both_ways}
use Rattle.structure_list.specs.integer_laws.Range.{InRange}
use Rattle.structure_list.specs.number_sets.Sets.{has, IsWithin}
use Rattle.structure_list.proofs.number_sets.Cited.{below_not_had}
use Rattle.flow_program.proofs.Cited.{IsNext, has_next, passed, rest_within}
use Rattle.structure_list.specs.flow_rules.Charge.{rounded_up}

clash : (b : Bool) → {X : Type 0} → b ≡ true → b ≡ false → X
clash b e f = absurd (let g : true ≡ false = sym e ∙ f in cc)

no_and : (a : Bool) → (a && false) ≡ false
no_and true = refl
no_and false = refl

no_or : (a : Bool) → (a || false) ≡ a
no_or true = refl
no_or false = refl

-- ---- those that pay

pub record IsFoundSoFar (t : ℕ → Bool) (set found left : List ℕ) : Type 0 where
  pub within : IsWithin (has left) (has set)
  pub got : (j : ℕ) → has left j ≡ false → has found j ≡ (has set j && t j)
  pub ahead : (j : ℕ) → has left j ≡ true → has found j ≡ false

pub found_begins : (t : ℕ → Bool) (set found : List ℕ) → found ≡ [] → IsFoundSoFar t set found set
found_begins t set found e = record {
  within = λ j h. h;
  got = λ j none. (ap (λ (xs : List ℕ). has xs j) e ∙ ap (λ (b : Bool). b && t j) (sym none));
  ahead = λ j h. ap (λ (xs : List ℕ). has xs j) e;
}

pub found_more : (t : ℕ → Bool) (set found left : List ℕ) (j : ℕ) (rest new : List ℕ) (b : Bool)
    → IsNext 256 left j rest → b ≡ t j → ((v : ℕ) → has new v ≡ (has found v || (b && j == v)))
    → IsFoundSoFar t set found left → IsFoundSoFar t set new rest
found_more t set found left j rest new b next e is h = record {
  within = λ i k. h.within i (rest_within 256 left j rest next i k);
  got = passed 256 left j rest next (λ i. has new i ≡ (has set i && t i)) earlier here;
  ahead =
      λ i there.
      (is i ∙ ap (λ (c : Bool). has found i || (b && c))
      (ne_eqb j i (λ s. clash (has rest i) there (below_not_had j i rest (omega arith) next.above)))
      ∙ ap (λ (c : Bool). has found i || c) (no_and b) ∙ no_or (has found i)
      ∙ h.ahead i (rest_within 256 left j rest next i there));
}
  where
    earlier : (i : ℕ) → has left i ≡ false → has new i ≡ (has set i && t i)
    earlier i gone = is i ∙ ap (λ (c : Bool). has found i || (b && c))
        (ne_eqb j i
        (λ s. clash (has left j) (has_next 256 left j rest next)
        (subst (λ w. has left w ≡ false) (sym s) gone)))
        ∙ ap (λ (c : Bool). has found i || c) (no_and b) ∙ no_or (has found i) ∙ h.got i gone

    all_and : (c : Bool) → (c && true) ≡ c
    all_and true = refl
    all_and false = refl

    here : has new j ≡ (has set j && t j)
    here = is j ∙ ap (λ (c : Bool). c || (b && j == j)) (h.ahead j (has_next 256 left j rest next))
        ∙ ap (λ (c : Bool). b && c) (eq-eqb j j refl) ∙ all_and b ∙ e
        ∙ ap (λ (c : Bool). c && t j) (sym (h.within j (has_next 256 left j rest next)))

pub found_ends : (t : ℕ → Bool) (set found left : List ℕ) → left ≡ []
    → IsFoundSoFar t set found left → (j : ℕ) → has found j ≡ (has set j && t j)
found_ends t set found left e h j = h.got j (ap (λ (xs : List ℕ). has xs j) e)

-- ---- their knees

abbrev pub AreAt : (ℕ → ℤ) → (ℕ → ℤ) → (ℕ → ℤ) → ℤ → ℤ → ℕ → Type 0
AreAt useful rate y at worth j = (at ≡ rounded_up (useful j) (rate j))
    × (InRange (y j *ℤ rate j) → worth ≡ y j *ℤ rate j)

pub record IsKneedSoFar (useful rate y : ℕ → ℤ) (outputs : List ℕ) (at worth : List ℤ)
    (left : List ℕ) : Type 0 where
  pub at_size : length at ≡ 256
  pub worth_size : length worth ≡ 256
  pub within : IsWithin (has left) (has outputs)
  pub filled : (j : ℕ) → has outputs j ≡ true → has left j ≡ false
      → AreAt useful rate y (get_or at j (pos 0)) (get_or worth j (pos 0)) j

pub kneed_begins : (useful rate y : ℕ → ℤ) (outputs : List ℕ) (at worth : List ℤ) → length at ≡ 256
    → length worth ≡ 256 → IsKneedSoFar useful rate y outputs at worth outputs
kneed_begins useful rate y outputs at worth a w =
    record {
      at_size = a;
      worth_size = w;
      within = λ j h. h;
      filled =
          λ j there gone. clash (has outputs j) there gone;
    }

pub kneed_more : (useful rate y : ℕ → ℤ) (outputs : List ℕ) (at worth : List ℤ) (left : List ℕ)
    (j : ℕ) (rest : List ℕ) (a w : ℤ) → IsNext 256 left j rest → a ≡ rounded_up (useful j) (rate j)
    → (InRange (y j *ℤ rate j) → w ≡ y j *ℤ rate j) → IsKneedSoFar useful rate y outputs at worth
    left → IsKneedSoFar useful rate y outputs (set at j a) (set worth j w) rest
kneed_more useful rate y outputs at worth left j rest a w next e f h = record {
  at_size = length-set at j a ∙ h.at_size;
  worth_size = length-set worth j w ∙ h.worth_size;
  within = λ i k. h.within i (rest_within 256 left j rest next i k);
  filled = λ i there gone. passed 256 left j rest next
      (λ i. has outputs i ≡ true → AreAt useful rate y (get_or (set at j a) i (pos 0))
      (get_or (set worth j w) i (pos 0)) i) earlier here i gone there;
}
  where
    here : has outputs j ≡ true → AreAt useful rate y (get_or (set at j a) j (pos 0))
        (get_or (set worth j w) j (pos 0)) j
    here there =
        let l : j < length at = let s = h.at_size in let b = next.below in omega arith in
        let m : j < length worth = let s = h.worth_size in let b = next.below in omega arith in
        (rw get_or-set_same e, λ r. (rw get_or-set_same (f r)))

    earlier : (i : ℕ) → has left i ≡ false → has outputs i ≡ true
        → AreAt useful rate y (get_or (set at j a) i (pos 0)) (get_or (set worth j w) i (pos 0)) i
    earlier i gone there =
        let o : i ≢ j = λ s. clash (has left j) (has_next 256 left j rest next)
        (subst (λ w. has left w ≡ false) s gone) in
        let before = h.filled i there gone in
        (rw get_or-set_other before.0, λ r. (rw get_or-set_other (before.1 r)))

pub kneed_ends : (useful rate y : ℕ → ℤ) (outputs : List ℕ) (at worth : List ℤ) (left : List ℕ)
    → left ≡ [] → IsKneedSoFar useful rate y outputs at worth left
    → (j : ℕ) → has outputs j ≡ true → AreAt useful rate y (get_or at j (pos 0))
    (get_or worth j (pos 0)) j
kneed_ends useful rate y outputs at worth left e h j there =
    h.filled j there (ap (λ (xs : List ℕ). has xs j) e)

pub pays_rate : (a b c : Bool) → (a && (b && c)) ≡ true → b ≡ true
pays_rate true true c h = refl
pays_rate true false c h = absurd (both_ways false refl h)
pays_rate false b c h = absurd (both_ways false refl h)
