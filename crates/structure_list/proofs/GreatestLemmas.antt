-- The least and the greatest number of a set.
use Rattle.std.proofs.Common.{◌≡◌, ℕ, zero, suc, ◌+◌, ◌-◌, ◌^◌, ◌<◌, ◌≤◌, ◌==◌, Bool, true, false}
use Rattle.std.proofs.Common.{cond, List, [], ◌∷◌, refl, sym, ap, ap₂, ◌∙◌, subst, inl, inr, arith}
use Rattle.std.proofs.Common.{eq-eqb, eqb-true, ne_eqb, Some, None}
use Rattle.std.proofs.lemmas.Bool.{cases_eq, or_cases, or_left, or_from, false_from_ne_true}
use Rattle.std.proofs.lemmas.Bool.{cases_Bool}
use Rattle.std.proofs.lemmas.Nat.{leading_top}
use Rattle.std.proofs.Math.Pow.{pow_mono}
use Rattle.std.specs.Int.{leading_zeros, w128}
use Rattle.pgraph.specs.number_sets.Sets.{has, first, listed, mask_of, IsRising, IsSet}
use Rattle.pgraph.proofs.number_sets.Cited.{below_not_had, listed-is, listed-less}
use Rattle.pgraph.specs.pns_rules.Trace.{least_below, or_later}
use Rattle.structure_list.specs.Position.{IsGreatest}

-- ---- the least

least_nowhere : (n : ℕ) (t : ℕ → Bool) → ((y : ℕ) → y < n → t y ≡ false) → least_below n t ≡ None
least_nowhere zero t h = refl
least_nowhere (suc n) t h =
    ap₂ (λ o b. or_later o (cond b (Some n) None)) (least_nowhere n t (λ y k. h y (omega arith)))
    (h n (omega arith))

least_here : (n x : ℕ) (t : ℕ → Bool) → x < n → ((y : ℕ) → y < x → t y ≡ false) → t x ≡ true
    → least_below n t ≡ Some x
least_here zero x t lt h e = absurd (omega (arith, lt))
least_here (suc n) x t lt h e = elim (cases_eq x n) [
  | inl q ↦
      let P : ℕ → Type 0 = λ k. least_below (suc n) t ≡ Some k in
      subst P (sym q)
      (ap₂ (λ o b. or_later o (cond b (Some n) None))
      (least_nowhere n t (λ y k. h y (omega arith))) (subst (λ k. t k ≡ true) q e))
  | inr d ↦ ap (λ o. or_later o (cond (t n) (Some n) None)) (least_here n x t (omega arith) h e)
]

-- the number with which a rising list begins is the least that it has
pub first-least : (n : ℕ) (xs : List ℕ) (t : ℕ → Bool) → IsRising xs
    → ((x : ℕ) → t x ≡ true → x < n) → ((x : ℕ) → has xs x ≡ t x) → first xs ≡ least_below n t
first-least n [] t r known same = sym (least_nowhere n t (λ y lt. sym (same y)))
first-least n (x ∷ xs) t r known same =
    let there : t x ≡ true = sym (same x) ∙ or_left (x == x) (has xs x) (eq-eqb x x refl) in
    sym (least_here n x t (known x there)
    (λ y lt. sym (same y)
    ∙ or_from (x == y) (has xs y) (ne_eqb x y (λ q. omega arith))
    (below_not_had x y xs (omega arith) r.0)) there)

-- ---- the greatest

mask-has : (xs : List ℕ) (u : ℕ) → has xs u ≡ true → 2 ^ u ≤ mask_of xs
mask-has [] u e = cc
mask-has (x ∷ xs) u e = elim (or_cases (x == u) (has xs u) e) [
  | inl q ↦ subst (λ v. 2 ^ v ≤ mask_of (x ∷ xs)) (eqb-true x u q) (omega arith)
  | inr h ↦ let rest = mask-has xs u h in omega arith
]

none_above : (xs : List ℕ) (j : ℕ) → mask_of xs < 2 ^ suc j → (v : ℕ) → j < v → has xs v ≡ false
none_above xs j less v lt = false_from_ne_true (has xs v) (λ e.
    let a = mask-has xs v e in
    let b : 2 ^ suc j ≤ 2 ^ v = pow_mono (let le : suc j ≤ v = omega arith in le) in
    omega arith)

has_top : (xs : List ℕ) (j : ℕ) → IsSet 128 xs → j < 128 → 2 ^ j ≤ mask_of xs
    → mask_of xs < 2 ^ suc j → has xs j ≡ true
has_top xs j set lt low high = elim (cases_Bool (has xs j)) [
  | inl e ↦ e
  | inr e ↦ absurd (
      let less = listed-less 128 (has xs) (has (j ∷ [])) j record {
        within = lt;
        lacks = e;
        holds = or_left (j == j) false (eq-eqb j j refl);
        above = λ v h k. none_above xs j high v h
            ∙ sym (or_from (j == v) false (ne_eqb j v (λ q. omega arith)) refl);
      } in
      let one : mask_of (listed 128 (has (j ∷ []))) ≡ 2 ^ j + 0 =
      ap mask_of (listed-is 128 (j ∷ []) (record { rising = (tt, tt); below = (lt, tt) })) in
      let all : mask_of (listed 128 (has xs)) ≡ mask_of xs = ap mask_of (listed-is 128 xs set) in
      omega arith)
]

pub leading_small : (n : ℕ) → (n ≡ 0 → ⊥) → n < 2 ^ 128 → leading_zeros w128 n ≤ 127
leading_small n some small =
    let k = leading_top 128 n (let p : 0 < n = omega arith in p) small in
    let sum = k.1 in
    omega arith

pub greatest_is : (xs : List ℕ) (n : ℕ) → IsSet 128 xs → n ≡ mask_of xs → (n ≡ 0 → ⊥) → n < 2 ^ 128
    → IsGreatest (has xs) (127 - leading_zeros w128 n)
greatest_is xs n set is some small =
    let k = leading_top 128 n (let p : 0 < n = omega arith in p) small in
    let sum = k.1 in
    let j : k.0 ≡ 127 - leading_zeros w128 n = omega arith in
    subst (λ u. IsGreatest (has xs) u) j record {
      below = omega arith;
      there =
          has_top xs k.0 set (let lt : k.0 < 128 = omega arith in lt)
          (subst (λ m. 2 ^ k.0 ≤ m) is k.2) (subst (λ m. m < 2 ^ suc k.0) is k.3);
      above = λ v h l. none_above xs k.0 (subst (λ m. m < 2 ^ suc k.0) is k.3) v h;
    }

pub none_if_zero : (xs : List ℕ) → mask_of xs ≡ 0 → xs ≡ []
none_if_zero [] e = refl
none_if_zero (x ∷ xs) e =
    absurd (let p : 0 < 2 ^ x = pow_mono (let le : 0 ≤ x = omega arith in le) in omega arith)
