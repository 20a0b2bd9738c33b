-- Positive factors and sums of rising lists.
use Rattle.std.proofs.Common.{◌≡◌, ℕ, zero, suc, ◌<◌, inl, inr, arith, ap, sym, ◌∙◌, subst}
use Rattle.std.specs.Prelude.{ℤ, pos, negsuc, ◌+ℤ◌, ◌-ℤ◌, ◌*ℤ◌, ◌<ℤ◌, ◌≤ℤ◌}
use Rattle.std.proofs.lemmas.Int.{ints}
use Rattle.std.proofs.lemmas.Bool.{cases_order}
use Rattle.flow_rules.proofs.integer_laws.Cited.{mul_pos, zero_of-mul, pos_of-mul, mul-zero_z}
use Rattle.flow_rules.specs.Lexicographic.{IsBefore, IsRising}

-- each number of g has a positive multiple in f
pub rising_scaled : (n : ℕ) (f g : ℕ → ℤ)
    → ((k : ℕ) → k < n → (c : ℤ) × (pos 0 <ℤ c) × (c *ℤ g k ≡ f k)) → IsRising n f → IsRising n g
rising_scaled n f g m r = record {
  at = r.at;
  below = r.below;
  same = λ i h.
      let b : i < n = omega (arith, r.below) in
      let (c, pc, e) = m i b in
      sym (zero_of-mul c (g i) pc (e ∙ sym (r.same i h)));
  less =
      let (c, pc, e) = m r.at r.below in
      pos_of-mul c (g r.at) pc (subst (λ x. pos 0 <ℤ x) (sym e) r.less);
}

sum_at : (a b x y : ℤ) → pos 0 <ℤ a → pos 0 <ℤ b → pos 0 <ℤ x → pos 0 <ℤ y
    → pos 0 <ℤ (a *ℤ x +ℤ b *ℤ y)
sum_at a b x y pa pb px py = omega (arith, ints, mul_pos a x pa px, mul_pos b y pb py)

left_at : (a b x y : ℤ) → pos 0 <ℤ a → pos 0 <ℤ x → pos 0 ≡ y → pos 0 <ℤ (a *ℤ x +ℤ b *ℤ y)
left_at a b x y pa px e = let z = ap (λ n. b *ℤ n) (sym e) ∙ mul-zero_z b in
    omega (arith, ints, mul_pos a x pa px, z)

right_at : (a b x y : ℤ) → pos 0 <ℤ b → pos 0 <ℤ y → pos 0 ≡ x → pos 0 <ℤ (a *ℤ x +ℤ b *ℤ y)
right_at a b x y pb py e = let z = ap (λ n. a *ℤ n) (sym e) ∙ mul-zero_z a in
    omega (arith, ints, mul_pos b y pb py, z)

none_at : (a b x y : ℤ) → pos 0 ≡ x → pos 0 ≡ y → pos 0 ≡ a *ℤ x +ℤ b *ℤ y
none_at a b x y e f =
    let z = ap (λ n. a *ℤ n) (sym e) ∙ mul-zero_z a in let w =
    ap (λ n. b *ℤ n) (sym f) ∙ mul-zero_z b in omega (arith, ints, z, w)

-- a sum of two rising lists under positive factors
pub rising_sum : (n : ℕ) (f g : ℕ → ℤ) (a b : ℤ) → pos 0 <ℤ a → pos 0 <ℤ b → IsRising n f
    → IsRising n g → IsRising n (λ k. a *ℤ f k +ℤ b *ℤ g k)
rising_sum n f g a b pa pb r s =
    elim (cases_order r.at s.at) [
      | inl e ↦ record {
        at = r.at;
        below = r.below;
        same = λ i h. let h' : i < s.at =
            omega (arith, e) in none_at a b (f i) (g i) (r.same i h) (s.same i h');
        less = sum_at a b (f r.at) (g r.at) pa pb r.less (subst (λ k. pos 0 <ℤ g k) (sym e) s.less);
      }
      | inr o ↦ elim o [
        | inl l ↦ record {
          at = r.at;
          below = r.below;
          same = λ i h. let h' : i < s.at =
              omega (arith, l) in none_at a b (f i) (g i) (r.same i h) (s.same i h');
          less = left_at a b (f r.at) (g r.at) pa r.less (s.same r.at l);
        }
        | inr l ↦ record {
          at = s.at;
          below = s.below;
          same = λ i h. let h' : i < r.at =
              omega (arith, l) in none_at a b (f i) (g i) (r.same i h') (s.same i h);
          less = right_at a b (f s.at) (g s.at) pb s.less (r.same s.at l);
        }
      ]
    ]

pub rising_of : (n : ℕ) (f g h : ℕ → ℤ) → ((k : ℕ) → h k ≡ g k -ℤ f k) → IsBefore n f g
    → IsRising n h
rising_of n f g h e r = record {
  at = r.at;
  below = r.below;
  same = λ i l. let s = r.same i l in let x = e i in omega (arith, ints, s, x);
  less = let s = r.less in let x = e r.at in omega (arith, ints, s, x);
}

pub rising_times : (n : ℕ) (f : ℕ → ℤ) (a : ℤ) → pos 0 <ℤ a → IsRising n f
    → IsRising n (λ k. a *ℤ f k)
rising_times n f a pa r = record {
  at = r.at;
  below = r.below;
  same = λ i h. sym (ap (λ x. a *ℤ x) (sym (r.same i h)) ∙ mul-zero_z a);
  less = mul_pos a (f r.at) pa r.less;
}

same_rising : (n : ℕ) (f g : ℕ → ℤ) → ((k : ℕ) → f k ≡ g k) → IsRising n f → IsRising n g
same_rising n f g e r = record {
  at = r.at;
  below = r.below;
  same = λ i h. r.same i h ∙ e i;
  less = subst (λ x. pos 0 <ℤ x) (e r.at) r.less;
}

-- the second factor may be 0
pub rising_sum₀ : (n : ℕ) (f g : ℕ → ℤ) (a b : ℤ) → pos 0 <ℤ a → pos 0 ≤ℤ b → IsRising n f
    → IsRising n g → IsRising n (λ k. a *ℤ f k +ℤ b *ℤ g k)
rising_sum₀ n f g a (negsuc m) pa pb r s = absurd (omega (arith, ints))
rising_sum₀ n f g a (pos zero) pa pb r s =
    same_rising n (λ k. a *ℤ f k) (λ k. a *ℤ f k +ℤ pos 0 *ℤ g k) (λ k. plus (a *ℤ f k) (g k))
    (rising_times n f a pa r)
  where
    plus : (x y : ℤ) → x ≡ x +ℤ pos 0 *ℤ y
    plus x y = omega (arith, ints)
rising_sum₀ n f g a (pos (suc m)) pa pb r s =
    rising_sum n f g a (pos (suc m)) pa (omega (arith, ints)) r s

-- the same, with a positive factor on both sides
pub rising_scaled₂ : (n : ℕ) (f g : ℕ → ℤ)
    → ((k : ℕ) → k < n → (c : ℤ) × (pos 0 <ℤ c) × ((m : ℤ) × (pos 0 <ℤ m) × (c *ℤ g k ≡ m *ℤ f k)))
    → IsRising n f → IsRising n g
rising_scaled₂ n f g h r = record {
  at = r.at;
  below = r.below;
  same = λ i l.
      let b : i < n = omega (arith, r.below) in
      let (c, pc, (m, pm, e)) = h i b in
      sym (zero_of-mul c (g i) pc (e ∙ ap (λ x. m *ℤ x) (sym (r.same i l)) ∙ mul-zero_z m));
  less =
      let (c, pc, (m, pm, e)) = h r.at r.below in
      pos_of-mul c (g r.at) pc (subst (λ x. pos 0 <ℤ x) (sym e) (mul_pos m (f r.at) pm r.less));
}

pub before_both : (n : ℕ) (f g f' g' : ℕ → ℤ) → ((k : ℕ) → k < n → f k ≡ f' k)
    → ((k : ℕ) → k < n → g k ≡ g' k) → IsBefore n f g → IsBefore n g' f' → ⊥
before_both n f g f' g' e h r s =
    elim (cases_order r.at s.at) [
      | inl q ↦ let x = r.less in let y =
          s.less in
          clash (f r.at) (g r.at) (f' s.at) (g' s.at) x y (e r.at r.below ∙ ap f' q)
          (h r.at r.below ∙ ap g' q)
      | inr o ↦ elim o [
        | inl l
            ↦ clash_same (f r.at) (g r.at) (f' r.at) (g' r.at) r.less (s.same r.at l)
            (e r.at r.below) (h r.at r.below)
        | inr l
            ↦ clash_same' (f s.at) (g s.at) (f' s.at) (g' s.at) s.less (r.same s.at l)
            (e s.at s.below) (h s.at s.below)
      ]
    ]
  where
    clash : (a b a' b' : ℤ) → a <ℤ b → b' <ℤ a' → a ≡ a' → b ≡ b' → ⊥
    clash a b a' b' x y p q = omega (arith, ints)

    clash_same : (a b a' b' : ℤ) → a <ℤ b → b' ≡ a' → a ≡ a' → b ≡ b' → ⊥
    clash_same a b a' b' x y p q = omega (arith, ints)

    clash_same' : (a b a' b' : ℤ) → b' <ℤ a' → a ≡ b → a ≡ a' → b ≡ b' → ⊥
    clash_same' a b a' b' y x p q = omega (arith, ints)
