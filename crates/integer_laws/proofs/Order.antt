-- Products and the order of the integers.
use Rattle.std.proofs.Common.{◌≡◌, zero, suc, ◌⊎◌, inl, inr, arith, refl, sym, ap, ◌∙◌, pos, negsuc}
use Rattle.std.proofs.Common.{ℤ, ◌-ℤ◌, ◌*ℤ◌, neg_ℤ, ◌<ℤ◌, ◌≤ℤ◌}
use Rattle.std.proofs.lemmas.Int.{ints, clamps}
use Rattle.std.specs.Int.{int_min, int_max}
use Rattle.std.specs.Cmp.{int_cmp_is, int_ranks}
use Rattle.std.specs.Ordering.{int_cmp, MatchOrdering}
use Rattle.std.specs.declared.cmp.Ordering.{Ordering}
use Rattle.std.specs.declared.cmp.Ordering.TheVariants.{Less, Equal, Greater}
use Rattle.integer_laws.proofs.Ring.{ring_z, mul-sub_z}

-- ---- signs

pub sign_cases : (z : ℤ) → (pos 0 <ℤ z) ⊎ (z ≤ℤ pos 0)
sign_cases (pos zero) = inr (omega (arith, ints))
sign_cases (pos (suc n)) = inl (omega (arith, ints))
sign_cases (negsuc n) = inr (omega (arith, ints))

pub zero_cases : (z : ℤ) → z ≤ℤ pos 0 → (z ≡ pos 0) ⊎ (z <ℤ pos 0)
zero_cases (pos zero) h = inl refl
zero_cases (pos (suc n)) h = absurd (omega (arith, ints))
zero_cases (negsuc n) h = inr (omega (arith, ints))

pub mul_pos : (a b : ℤ) → pos 0 <ℤ a → pos 0 <ℤ b → pos 0 <ℤ (a *ℤ b)
mul_pos (pos zero) b h k = absurd (omega (arith, ints))
mul_pos (negsuc m) b h k = absurd (omega (arith, ints))
mul_pos (pos (suc m)) (pos zero) h k = absurd (omega (arith, ints))
mul_pos (pos (suc m)) (negsuc n) h k = absurd (omega (arith, ints))
mul_pos (pos (suc m)) (pos (suc n)) h k = omega (arith, ints)

pub mul_nonneg : (a b : ℤ) → pos 0 ≤ℤ a → pos 0 ≤ℤ b → pos 0 ≤ℤ (a *ℤ b)
mul_nonneg (negsuc m) b h k = absurd (omega (arith, ints))
mul_nonneg (pos m) (negsuc n) h k = absurd (omega (arith, ints))
mul_nonneg (pos m) (pos n) h k = omega (arith, ints)

-- ---- a fact times a factor

pub mul-le_left : (c a b : ℤ) → a ≤ℤ b → pos 0 ≤ℤ c → (c *ℤ a) ≤ℤ (c *ℤ b)
mul-le_left c a b h k =
    let d : pos 0 ≤ℤ (b -ℤ a) = omega (arith, ints) in
    let e : pos 0 ≤ℤ (c *ℤ (b -ℤ a)) = mul_nonneg c (b -ℤ a) k d in
    let f : c *ℤ (b -ℤ a) ≡ c *ℤ b -ℤ c *ℤ a = mul-sub_z c b a in
    omega (arith, ints)

pub mul-le_right : (a b c : ℤ) → a ≤ℤ b → pos 0 ≤ℤ c → (a *ℤ c) ≤ℤ (b *ℤ c)
mul-le_right a b c h k = let f : (c *ℤ a) ≤ℤ (c *ℤ b) = mul-le_left c a b h k in omega (arith, ints)

-- a factor below 0 reverses the order
pub mul-le_left_neg : (c a b : ℤ) → a ≤ℤ b → c ≤ℤ pos 0 → (c *ℤ b) ≤ℤ (c *ℤ a)
mul-le_left_neg c a b h k =
    let n : pos 0 ≤ℤ neg_ℤ c = omega (arith, ints) in
    let f : (neg_ℤ c *ℤ a) ≤ℤ (neg_ℤ c *ℤ b) = mul-le_left (neg_ℤ c) a b h n in
    omega (arith, ring_z)

pub mul-lt_left : (c a b : ℤ) → a <ℤ b → pos 0 <ℤ c → (c *ℤ a) <ℤ (c *ℤ b)
mul-lt_left c a b h k =
    let d : pos 0 <ℤ (b -ℤ a) = omega (arith, ints) in
    let e : pos 0 <ℤ (c *ℤ (b -ℤ a)) = mul_pos c (b -ℤ a) k d in
    let f : c *ℤ (b -ℤ a) ≡ c *ℤ b -ℤ c *ℤ a = mul-sub_z c b a in
    omega (arith, ints)

pub mul-lt_right : (a b c : ℤ) → a <ℤ b → pos 0 <ℤ c → (a *ℤ c) <ℤ (b *ℤ c)
mul-lt_right a b c h k = let f : (c *ℤ a) <ℤ (c *ℤ b) = mul-lt_left c a b h k in omega (arith, ints)

-- ---- a factor taken away

pub zero_of-mul : (c x : ℤ) → pos 0 <ℤ c → c *ℤ x ≡ pos 0 → x ≡ pos 0
zero_of-mul (pos zero) x h e = absurd (omega (arith, ints))
zero_of-mul (negsuc m) x h e = absurd (omega (arith, ints))
zero_of-mul (pos (suc m)) (pos n) h e = omega (arith, ints)
zero_of-mul (pos (suc m)) (negsuc n) h e = absurd (omega (arith, ints))

pub pos_of-mul : (c x : ℤ) → pos 0 <ℤ c → pos 0 <ℤ (c *ℤ x) → pos 0 <ℤ x
pos_of-mul (pos zero) x h e = absurd (omega (arith, ints))
pos_of-mul (negsuc m) x h e = absurd (omega (arith, ints))
pos_of-mul (pos (suc m)) (pos zero) h e = absurd (omega (arith, ints))
pos_of-mul (pos (suc m)) (pos (suc n)) h e = omega (arith, ints)
pos_of-mul (pos (suc m)) (negsuc n) h e = absurd (omega (arith, ints))

pub cancel : (c x y : ℤ) → pos 0 <ℤ c → c *ℤ x ≡ c *ℤ y → x ≡ y
cancel c x y h e =
    let z : c *ℤ (x -ℤ y) ≡ pos 0 = mul-sub_z c x y ∙ (omega (arith, ints)) in
    let w : (x -ℤ y) ≡ pos 0 = zero_of-mul c (x -ℤ y) h z in
    omega (arith, ints)

pub cancel_lt : (c x y : ℤ) → pos 0 <ℤ c → (c *ℤ x) <ℤ (c *ℤ y) → x <ℤ y
cancel_lt c x y h k =
    let f : c *ℤ (y -ℤ x) ≡ c *ℤ y -ℤ c *ℤ x = mul-sub_z c y x in
    let p : pos 0 <ℤ (c *ℤ (y -ℤ x)) = omega (arith, ints) in
    let w : pos 0 <ℤ (y -ℤ x) = pos_of-mul c (y -ℤ x) h p in
    omega (arith, ints)

pub cancel_le : (c x y : ℤ) → pos 0 <ℤ c → (c *ℤ x) ≤ℤ (c *ℤ y) → x ≤ℤ y
cancel_le c x y h k =
    elim (sign_cases (x -ℤ y)) [
      | inl p ↦
          let e : pos 0 <ℤ (c *ℤ (x -ℤ y)) = mul_pos c (x -ℤ y) h p in
          let f : c *ℤ (x -ℤ y) ≡ c *ℤ x -ℤ c *ℤ y = mul-sub_z c x y in
          absurd (omega (arith, ints))
      | inr p ↦ omega (arith, ints)
    ]

pub le_trans_z : (a b c : ℤ) → a ≤ℤ b → b ≤ℤ c → a ≤ℤ c
le_trans_z a b c h k = omega (arith, ints)

-- ---- the lesser and the greater of two

pub int_min-le_left : (x y : ℤ) → int_min x y ≤ℤ x
int_min-le_left x y = omega (arith, ints, clamps)

pub int_min-le_right : (x y : ℤ) → int_min x y ≤ℤ y
int_min-le_right x y = omega (arith, ints, clamps)

pub le-int_min : (z x y : ℤ) → z ≤ℤ x → z ≤ℤ y → z ≤ℤ int_min x y
le-int_min z x y h k = omega (arith, ints, clamps)

pub left-le_int_max : (x y : ℤ) → x ≤ℤ int_max x y
left-le_int_max x y = omega (arith, ints, clamps)

pub right-le_int_max : (x y : ℤ) → y ≤ℤ int_max x y
right-le_int_max x y = omega (arith, ints, clamps)

pub int_max-le : (x y z : ℤ) → x ≤ℤ z → y ≤ℤ z → int_max x y ≤ℤ z
int_max-le x y z h k = omega (arith, ints, clamps)

-- ---- comparison

scaled_rank : (k a b : ℤ) → pos 0 <ℤ k → (r : Ordering) → MatchOrdering r (a <ℤ b) (a ≡ b) (b <ℤ a)
    → MatchOrdering r ((k *ℤ a) <ℤ (k *ℤ b)) (k *ℤ a ≡ k *ℤ b) ((k *ℤ b) <ℤ (k *ℤ a))
scaled_rank k a b p Less h = mul-lt_left k a b h p
scaled_rank k a b p Equal h = ap (λ (z : ℤ). k *ℤ z) h
scaled_rank k a b p Greater h = mul-lt_left k b a h p

-- a factor above 0 on both sides changes no comparison
pub int_cmp-mul : (k a b : ℤ) → pos 0 <ℤ k → int_cmp (k *ℤ a) (k *ℤ b) ≡ int_cmp a b
int_cmp-mul k a b p =
    sym (int_cmp_is (k *ℤ a) (k *ℤ b) (int_cmp a b)
    (scaled_rank k a b p (int_cmp a b) (int_ranks a b)))
