-- What adding 1 does to the bits of a number, and so to a set: the lowest bit that is not set comes
-- in, and those below it go out.
use Rattle.std.proofs.Common.{◌≡◌, ⊎_elim, ℕ, zero, suc, ◌+◌, ◌-◌, ◌*◌, ◌/◌, ◌%◌, ◌^◌, ◌<◌, ◌≤◌}
use Rattle.std.proofs.Common.{◌==◌, Bool, true, false, not, ◌&&◌, ◌||◌, List, refl, sym, ap, ap₂}
use Rattle.std.proofs.Common.{◌∙◌, subst, arith, pow-suc, inl, inr, ◌⊎◌, bit_or, bit_and}
use Rattle.std.proofs.lemmas.Bool.{cases_lt, cases_Bool, or_cases, or_left, or_right, or_from}
use Rattle.std.proofs.lemmas.Bool.{and_from, and_left, and_right, both_ways, false_from_ne_true}
use Rattle.std.proofs.lemmas.Nat.{pow_pos, or_lt, and_le_l}
use Rattle.std.proofs.lemmas.Nat.Bits.{bit_at-pow_same, bit_at-pow_other, bit_at_ones}
use Rattle.std.proofs.lemmas.Nat.Bits.{bit_at_cat_low, bit_at_cat_high, bit_at-trailing_ones}
use Rattle.std.proofs.lemmas.Nat.Bits.{bit_at_above}
use Rattle.std.proofs.Math.Nat.{div-add-mod}
use Rattle.std.specs.Int.{w128, trailing_ones, bit_at}
use Rattle.number_sets.specs.Sets.{has, IsSet, IsWithin, Avoids}
use Rattle.number_sets.specs.Options.{IsBetween, IsNextOption}
use Rattle.number_sets.proofs.Cited.{IsCarried, next_is, same_tests}
use Rattle.unit_sets.specs.Masks.{has_bit, members}
use Rattle.unit_sets.specs.MaskInverse.{split_bit}
use Rattle.unit_sets.proofs.MaskLemmas.{has-members, has_bit-or, has_bit-and, has_bit-not}
use Rattle.unit_sets.proofs.MaskLemmas.{IsRising-members, AreBelow-members}

-- bit k of x is the lowest that is not set, and y has it in place of the bits below it
pub record IsIncrement (x y k : ℕ) : Type 0 where
  pub within : k < 128
  pub was_out : has_bit x k ≡ false
  pub were_in : (v : ℕ) → v < k → has_bit x v ≡ true
  pub is_in : has_bit y k ≡ true
  pub are_out : (v : ℕ) → v < k → has_bit y v ≡ false
  pub same : (v : ℕ) → k < v → has_bit y v ≡ has_bit x v

-- a number whose lowest k bits are set
ones_below : (x k : ℕ) → ((v : ℕ) → v < k → bit_at x v ≡ 1) → x % 2 ^ k + 1 ≡ 2 ^ k
ones_below x zero h = omega arith
ones_below x (suc k) h =
    let e : 1 + k ≡ suc k = omega arith in
    let split : x % 2 ^ suc k ≡ bit_at x k * 2 ^ k + x % 2 ^ k =
    subst (λ j. x % 2 ^ j ≡ bit_at x k * 2 ^ k + x % 2 ^ k) e (split_bit x k) in
    let one : bit_at x k ≡ 1 = h k (omega arith) in
    let split' : x % 2 ^ suc k ≡ 1 * 2 ^ k + x % 2 ^ k =
    subst (λ b. x % 2 ^ suc k ≡ b * 2 ^ k + x % 2 ^ k) one split in
    omega (arith, ones_below x k (λ v less. h v (omega arith)), pow-suc 2 k)

pub increment : (x : ℕ) → x + 1 < 2 ^ 128 → (k : ℕ) × IsIncrement x (x + 1) k
increment x fits =
    (trailing_ones w128 x, at (trailing_ones w128 x) (bit_at-trailing_ones w128 x fits))
  where
    at : (k : ℕ) → (k < 128) × (bit_at x k ≡ 0) × ((v : ℕ) → v < k → bit_at x v ≡ 1)
        → IsIncrement x (x + 1) k
    at k h =
        let q = x / 2 ^ suc k in
        let e : 1 + k ≡ suc k = omega arith in
        let split : x % 2 ^ suc k ≡ bit_at x k * 2 ^ k + x % 2 ^ k =
        subst (λ j. x % 2 ^ j ≡ bit_at x k * 2 ^ k + x % 2 ^ k) e (split_bit x k) in
        let split' : x % 2 ^ suc k ≡ 0 * 2 ^ k + x % 2 ^ k =
        subst (λ b. x % 2 ^ suc k ≡ b * 2 ^ k + x % 2 ^ k) h.1 split in
        let low = ones_below x k h.2 in
        let whole = div-add-mod x (2 ^ suc k) in
        let p = pow_pos k in
        let old : x ≡ q * 2 ^ suc k + (2 ^ k - 1) = omega arith in
        let new : x + 1 ≡ q * 2 ^ suc k + 2 ^ k = omega arith in
        record {
          within = h.0;
          was_out = ap (λ b. b == 1) h.1;
          were_in = λ v less. ap (λ b. b == 1) (h.2 v less);
          is_in =
              ap (λ b. b == 1)
              (ap (λ n. bit_at n k) new
              ∙ (bit_at_cat_low q (suc k) (2 ^ k) k (omega arith) ∙ bit_at-pow_same k));
          are_out =
              λ v less. ap (λ b. b == 1)
              (ap (λ n. bit_at n v) new
              ∙ (bit_at_cat_low q (suc k) (2 ^ k) v (omega arith)
              ∙ bit_at-pow_other k v (λ s. omega arith)));
          same = λ v more. ap (λ b. b == 1)
              (ap (λ n. bit_at n v) new
              ∙ (bit_at_cat_high q (suc k) (2 ^ k) v (omega (arith, pow-suc 2 k)) (omega arith)
              ∙ (sym
              (bit_at_cat_high q (suc k) (2 ^ k - 1) v (omega (arith, pow-suc 2 k))
              (omega arith)) ∙ ap (λ n. bit_at n v) (sym old))));
        }

-- ---- the next option: s, base and free are masks

abbrev pub filled : ℕ → ℕ → ℕ
filled s free = bit_or s (2 ^ 128 - 1 - free)

filled_bit : (s free u : ℕ) → free < 2 ^ 128 → u < 128
    → has_bit (filled s free) u ≡ (has_bit s u || not (has_bit free u))
filled_bit s free u h k = has_bit-or s (2 ^ 128 - 1 - free) u
    ∙ ap (λ b. has_bit s u || b) (has_bit-not free u h k)

pub filled_lt : (s free : ℕ) → s < 2 ^ 128 → free < 2 ^ 128 → filled s free < 2 ^ 128
filled_lt s free h k = or_lt 128 s (2 ^ 128 - 1 - free) h (omega arith)

abbrev pub carried : ℕ → ℕ → ℕ → ℕ
carried s base free = bit_or (bit_and (filled s free + 1) free) base

pub carried_lt : (s base free : ℕ) → base < 2 ^ 128 → free < 2 ^ 128 → filled s free + 1 < 2 ^ 128
    → carried s base free < 2 ^ 128
carried_lt s base free b f h =
    or_lt 128 (bit_and (filled s free + 1) free) base
    (let le = and_le_l (filled s free + 1) free in omega arith) b

-- if all bits are set, each free number is in the set
pub full_has_free : (s free : ℕ) → s < 2 ^ 128 → free < 2 ^ 128 → filled s free ≡ 2 ^ 128 - 1
    → IsWithin (has (members free)) (has (members s))
full_has_free s free h k e u held =
    ⊎_elim (λ lt. at lt (has_bit s u) (has_bit free u) refl (sym (has-members free u k) ∙ held))
    (λ ge. absurd (both_ways (has_bit free u) (no_bit ge) (sym (has-members free u k) ∙ held)))
    (cases_lt u 128)
  where
    no_bit : 128 ≤ u → has_bit free u ≡ false
    no_bit ge = ap (λ b. b == 1) (bit_at_above free 128 u k ge)

    at : u < 128 → (a b : Bool) → has_bit s u ≡ a → has_bit free u ≡ true → has (members s) u ≡ true
    at lt true b p q = has-members s u h ∙ p
    at lt false b p q =
        let full : has_bit (filled s free) u ≡ true =
        ap (λ n. has_bit n u) e ∙ ap (λ b. b == 1) (bit_at_ones 128 u lt) in
        let none : has_bit (filled s free) u ≡ false =
        filled_bit s free u k lt ∙ ap₂ (λ a b. a || not b) p q in
        absurd (both_ways (has_bit (filled s free) u) none full)

-- ---- the same over tests: x is s with all that is not free, y is x with 1 more, and r is the free
-- part of y with the base

module _ (s base free x y r : ℕ → Bool) (k : ℕ) where
  pub record IsStepped : Type 0 where
    pub lowest : x k ≡ false
    pub were_in : (v : ℕ) → v < k → x v ≡ true
    pub is_in : y k ≡ true
    pub are_out : (v : ℕ) → v < k → y v ≡ false
    pub same : (v : ℕ) → k < v → y v ≡ x v
    pub x_is : (v : ℕ) → v < 128 → x v ≡ (s v || not (free v))
    pub r_is : (v : ℕ) → r v ≡ ((y v && free v) || base v)
    pub free_below : (v : ℕ) → free v ≡ true → v < 128
    pub apart : Avoids base free
    pub has_base : IsWithin base s
    pub inside : (v : ℕ) → s v ≡ true → (base v || free v) ≡ true

or_none : (a b : Bool) → (a || not b) ≡ false → (a ≡ false) × (b ≡ true)
or_none true b e = cc
or_none false true e = (refl, refl)
or_none false false e = cc

or_not : (a b : Bool) → (a || not b) ≡ true → b ≡ true → a ≡ true
or_not true b e q = refl
or_not false true e q = cc
or_not false false e q = cc

pub stepped : (s base free x y r : ℕ → Bool) (k : ℕ) → k < 128 → IsStepped s base free x y r k
    → IsCarried free s r k
stepped s base free x y r k low h = record {
  is_free = at_k.1;
  was_out = at_k.0;
  were_in = λ v less f. or_not (s v) (free v) (sym (h.x_is v (omega arith)) ∙ h.were_in v less) f;
  is_in = h.r_is k ∙ or_left (y k && free k) (base k) (and_from (y k) (free k) h.is_in at_k.1);
  are_out = λ v less f. h.r_is v
      ∙ or_from (y v && free v) (base v) (and_left (y v) (free v) (h.are_out v less))
      (not_base v f);
  same_below = λ v less f. not_free v f;
  same_above = λ v more. above v more (cases_Bool (free v));
}
  where
    at_k : (s k ≡ false) × (free k ≡ true)
    at_k = or_none (s k) (free k) (sym (h.x_is k low) ∙ h.lowest)

    not_base : (v : ℕ) → free v ≡ true → base v ≡ false
    not_base v f = false_from_ne_true (base v) (λ e. h.apart v e f)

    -- a number that is not free is in r if it is in s
    not_free : (v : ℕ) → free v ≡ false → r v ≡ s v
    not_free v f =
        h.r_is v
        ∙ same_tests ((y v && free v) || base v) (s v)
        (λ e. ⊎_elim (λ p. absurd (both_ways (y v && free v) (and_right (y v) (free v) f) p))
        (λ b. h.has_base v b) (or_cases (y v && free v) (base v) e))
        (λ e. or_right (y v && free v) (base v)
        (⊎_elim (λ b. b) (λ p. absurd (both_ways (free v) f p))
        (or_cases (base v) (free v) (h.inside v e))))

    above : (v : ℕ) → k < v → (free v ≡ true) ⊎ (free v ≡ false) → r v ≡ s v
    above v more (inr f) = not_free v f
    above v more (inl f) = h.r_is v
        ∙ (ap₂ (λ a b. (a && b) || base v) (h.same v more ∙ h.x_is v (h.free_below v f)) f
        ∙ (ap (λ b. ((s v || not (free v)) && true) || b) (not_base v f)
        ∙ (ap (λ b. ((s v || not b) && true) || false) f ∙ plain (s v))))
      where
        plain : (a : Bool) → (((a || not true) && true) || false) ≡ a
        plain true = refl
        plain false = refl

-- ---- and of masks

has_is : (n : ℕ) → n < 2 ^ 128 → has (members n) ≡ has_bit n
has_is n h = λ i. λ u. has-members n u h i

bit_below : (n u : ℕ) → n < 2 ^ 128 → has_bit n u ≡ true → u < 128
bit_below n u h e =
    ⊎_elim (λ lt. lt)
    (λ ge. absurd (both_ways (has_bit n u) (ap (λ b. b == 1) (bit_at_above n 128 u h ge)) e))
    (cases_lt u 128)

carried_bits : (s base free : ℕ) → s < 2 ^ 128 → free < 2 ^ 128 → filled s free + 1 < 2 ^ 128
    → Avoids (has_bit base) (has_bit free) → IsWithin (has_bit base) (has_bit s)
    → ((v : ℕ) → has_bit s v ≡ true → (has_bit base v || has_bit free v) ≡ true) → (k : ℕ)
    × IsCarried (has_bit free) (has_bit s) (has_bit (carried s base free)) k
carried_bits s base free h k fits apart has_base inside = at (increment (filled s free) fits)
  where
    at : (k : ℕ) × IsIncrement (filled s free) (filled s free + 1) k → (k : ℕ)
        × IsCarried (has_bit free) (has_bit s) (has_bit (carried s base free)) k
    at (m, i) = (
      m,
      stepped (has_bit s) (has_bit base) (has_bit free) (has_bit (filled s free))
          (has_bit (filled s free + 1)) (has_bit (carried s base free)) m i.within record {
            lowest = i.was_out;
            were_in = i.were_in;
            is_in = i.is_in;
            are_out = i.are_out;
            same = i.same;
            x_is = λ v less. filled_bit s free v k less;
            r_is = λ v. has_bit-or (bit_and (filled s free + 1) free) base v
                ∙ ap (λ b. b || has_bit base v) (has_bit-and (filled s free + 1) free v);
            free_below = λ v e. bit_below free v k e;
            apart = apart;
            has_base = has_base;
            inside = inside;
          },
    )

pub next_mask : (s base free : ℕ) → s < 2 ^ 128 → base < 2 ^ 128 → free < 2 ^ 128
    → filled s free + 1 < 2 ^ 128 → Avoids (has (members base)) (has (members free))
    → IsBetween (members base) (members free) (members s)
    → IsNextOption (members base) (members free) (members s) (members (carried s base free))
next_mask s base free h b k fits apart between =
    let c = carried_bits s base free h k fits
    (λ u p q. apart u (has-members base u b ∙ p) (has-members free u k ∙ q))
    (λ u p. sym (has-members s u h) ∙ between.has_base u (has-members base u b ∙ p))
    (λ u p. (λ i. sym (has-members base u b) i || sym (has-members free u k) i)
    ∙ between.within u (has-members s u h ∙ p)) in
    next_is 128 (members base) (members free) (is_set base) (is_set free) apart (members s)
    (members (carried s base free)) c.0 between
    (IsRising-members (carried s base free))
    (subst₃ (λ f t r. IsCarried f t r c.0) (sym (has_is free k)) (sym (has_is s h))
    (sym (has_is (carried s base free) (carried_lt s base free b k fits))) c.1)
  where
    is_set : (n : ℕ) → IsSet 128 (members n)
    is_set n = record { rising = IsRising-members n; below = AreBelow-members n }

    subst₃ : (P : (ℕ → Bool) → (ℕ → Bool) → (ℕ → Bool) → Type 0) {f f' t t' r r' : ℕ → Bool}
        → f ≡ f' → t ≡ t' → r ≡ r' → P f t r → P f' t' r'
    subst₃ P {f} {f'} {t} {t'} {r} {r'} p q e x =
        subst (λ a. P a t' r') p (subst (λ b. P f b r') q (subst (λ d. P f t d) e x))

-- ---- the same of the lists

module _ (s base free : ℕ) (h : s < 2 ^ 128) (b : base < 2 ^ 128) (k : free < 2 ^ 128)
    (xs bs fs : List ℕ) (es : members s ≡ xs) (eb : members base ≡ bs)
    (ef : members free ≡ fs) where
  viewed : (P : List ℕ → List ℕ → List ℕ → Type 0) → P (members s) (members base) (members free)
      → P xs bs fs
  viewed P x =
      subst (λ c. P c bs fs) es
      (subst (λ d. P (members s) d fs) eb (subst (λ e. P (members s) (members base) e) ef x))

  pub next_of_mask : filled s free + 1 < 2 ^ 128 → Avoids (has bs) (has fs) → IsBetween bs fs xs
      → IsNextOption bs fs xs (members (carried s base free))
  next_of_mask fits =
      viewed (λ c d e. Avoids (has d) (has e) → IsBetween d e c
      → IsNextOption d e c (members (carried s base free)))
      (λ apart between. next_mask s base free h b k fits apart between)

pub free_in_mask : (s free : ℕ) → s < 2 ^ 128 → free < 2 ^ 128 → (xs fs : List ℕ) → members s ≡ xs
    → members free ≡ fs → filled s free ≡ 2 ^ 128 - 1 → IsWithin (has fs) (has xs)
free_in_mask s free h k xs fs es ef e =
    subst (λ c. IsWithin (has fs) (has c)) es
    (subst (λ d. IsWithin (has d) (has (members s))) ef (full_has_free s free h k e))
