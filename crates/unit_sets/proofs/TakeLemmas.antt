-- What taking out the least number does: a mask loses its lowest bit, and its list the first
-- number.
use Rattle.std.proofs.Common.{◌≡◌, ℕ, ◌+◌, ◌-◌, ◌^◌, ◌<◌, ◌≤◌, ◌==◌, Bool, true, false, ◌&&◌, ◌||◌}
use Rattle.std.proofs.Common.{List, [], ◌∷◌, inl, inr, ◌⊎◌, refl, sym, ap, ◌∙◌, subst, arith, Some}
use Rattle.std.proofs.Common.{bit_and, ne_eqb, eq-eqb}
use Rattle.std.proofs.lemmas.Bool.{cases_order, both_ways, and_left, and_right, or_left, or_from}
use Rattle.std.proofs.lemmas.Nat.{and_le_l}
use Rattle.std.specs.Int.{w128, trailing_zeros}
use Rattle.number_sets.specs.Sets.{has, first, IsBelowAll, IsSet}
use Rattle.number_sets.proofs.Cited.{same_sets}
use Rattle.unit_sets.specs.Masks.{has_bit, members}
use Rattle.unit_sets.proofs.MaskLemmas.{IsRising-members, AreBelow-members, has-members}
use Rattle.unit_sets.proofs.MaskLemmas.{has_bit-and, first-members}
use Rattle.unit_sets.proofs.NextLemmas.{IsIncrement, increment}

-- x is below each number of a set that has none up to x
below_all : (x : ℕ) (xs : List ℕ) → ((v : ℕ) → v ≤ x → has xs v ≡ false) → IsBelowAll x xs
below_all x [] none = tt
below_all x (y ∷ ys) none = (more, below_all x ys (λ v le. right (y == v) (has ys v) (none v le)))
  where
    right : (a b : Bool) → (a || b) ≡ false → b ≡ false
    right true b e = cc
    right false b e = e

    more : x < y
    more = elim (cases_order x y) [
      | inl e
          ↦ absurd
          (both_ways (has (y ∷ ys) y) (none y (omega arith))
          (or_left (y == y) (has ys y) (eq-eqb y y refl)))
      | inr d ↦ elim d [
        | inl lt ↦ lt
        | inr gt
            ↦ absurd
            (both_ways (has (y ∷ ys) y) (none y (omega arith))
            (or_left (y == y) (has ys y) (eq-eqb y y refl)))
      ]
    ]

-- bit k of n is the lowest that is set, and `n & (n - 1)` lacks it
module _ (n p k : ℕ) (h : n < 2 ^ 128) (s : IsIncrement p n k) where
  rest_at : has_bit (bit_and n p) k ≡ false
  rest_at = has_bit-and n p k ∙ and_right (has_bit n k) (has_bit p k) s.was_out

  rest_below : (v : ℕ) → v < k → has_bit (bit_and n p) v ≡ false
  rest_below v less = has_bit-and n p v ∙ and_left (has_bit n v) (has_bit p v) (s.are_out v less)

  rest_above : (v : ℕ) → k < v → has_bit (bit_and n p) v ≡ has_bit n v
  rest_above v more = has_bit-and n p v
      ∙ (ap (λ b. has_bit n v && b) (sym (s.same v more)) ∙ twice (has_bit n v))
    where
      twice : (a : Bool) → (a && a) ≡ a
      twice true = refl
      twice false = refl

  rest_lt : bit_and n p < 2 ^ 128
  rest_lt = let le = and_le_l n p in omega arith

  rest_up_to : (v : ℕ) → v ≤ k → has (members (bit_and n p)) v ≡ false
  rest_up_to v le = has-members (bit_and n p) v rest_lt ∙ elim (cases_order v k) [
    | inl e ↦ subst (λ w. has_bit (bit_and n p) w ≡ false) (sym e) rest_at
    | inr d ↦ elim d [
      | inl lt ↦ rest_below v lt
      | inr gt ↦ absurd (omega arith)
    ]
  ]

  lowest_first : members n ≡ k ∷ members (bit_and n p)
  lowest_first =
      same_sets (members n) (k ∷ members (bit_and n p)) (IsRising-members n)
      (below_all k (members (bit_and n p)) rest_up_to, IsRising-members (bit_and n p))
      (λ v. has-members n v h
      ∙ (at v (cases_order k v)
      ∙ ap (λ b. (k == v) || b) (sym (has-members (bit_and n p) v rest_lt))))
    where
      at : (v : ℕ) → (k ≡ v) ⊎ ((k < v) ⊎ (v < k))
          → has_bit n v ≡ ((k == v) || has_bit (bit_and n p) v)
      at v (inl e) = subst (λ w. has_bit n w ≡ true) e s.is_in
          ∙ sym (or_left (k == v) (has_bit (bit_and n p) v) (eq-eqb k v e))
      at v (inr (inl lt)) = sym (rest_above v lt)
          ∙ sym (ap (λ b. b || has_bit (bit_and n p) v) (ne_eqb k v (λ e. omega arith)))
      at v (inr (inr gt)) = s.are_out v gt
          ∙ sym
          (or_from (k == v) (has_bit (bit_and n p) v) (ne_eqb k v (λ e. omega arith))
          (rest_below v gt))

head_is : (xs ys : List ℕ) (u k : ℕ) → xs ≡ k ∷ ys → first xs ≡ Some u → xs ≡ u ∷ ys
head_is [] ys u k e g = cc
head_is (x ∷ xs) ys u k e g = cc

-- what `n & (n - 1)` does
pub taken-members : (n : ℕ) → 0 < n → n < 2 ^ 128
    → members n ≡ trailing_zeros w128 n ∷ members (bit_and n (n - 1))
taken-members n p h =
    let e : n - 1 + 1 ≡ n = omega arith in
    let up = increment (n - 1) (omega arith) in
    head_is (members n) (members (bit_and n (n - 1))) (trailing_zeros w128 n) up.0
    (lowest_first n (n - 1) up.0 h (subst (λ m. IsIncrement (n - 1) m up.0) e up.1))
    (first-members n p h)

pub IsSet-members : (n : ℕ) → IsSet 128 (members n)
IsSet-members n = record { rising = IsRising-members n; below = AreBelow-members n }
