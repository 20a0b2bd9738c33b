-- Identities of polynomials over the integers. An integer z is read as `up z - down z`, as in
-- `ints`.
--     ring_z      for `omega (arith, ring_z)`: sums, differences and products of up to four factors
--                 are multiplied out
--     ring, ring_le, ring_lt      for larger ones: both sides written as `Polynomial`, and
--                 `omega arith` for the equation of naturals that is left
--     read_equal, read_le, read_lt      a hypothesis in the same form, for that `omega`
use Rattle.std.proofs.Common.{◌≡◌, ℕ, ap, arith, pos, ℤ, ◌+ℤ◌, ◌-ℤ◌, ◌*ℤ◌, neg_ℤ, ◌<ℤ◌, ◌≤ℤ◌, ◌+◌}
use Rattle.std.proofs.Common.{◌*◌, ◌<◌, ◌≤◌}
use Rattle.std.proofs.lemmas.Int.{ints}
use borrow.Author.Differences.{up, down, sum_is_lem, product_is, neg_is, same_in, same_out}

-- ---- by reflection

infixl 6 ◌⊕◌ ◌⊖◌
infixl 7 ◌⊗◌
-- a polynomial over integers: V a variable, N a numeral
pub data Polynomial : Type 0 where
  V : ℤ → Polynomial
  N : ℕ → Polynomial
  ◌⊕◌ : Polynomial → Polynomial → Polynomial
  ◌⊖◌ : Polynomial → Polynomial → Polynomial
  ◌⊗◌ : Polynomial → Polynomial → Polynomial
  Neg : Polynomial → Polynomial

abbrev pub value : Polynomial → ℤ
value (V z) = z
value (N n) = pos n
value (a ⊕ b) = value a +ℤ value b
value (a ⊖ b) = value a -ℤ value b
value (a ⊗ b) = value a *ℤ value b
value (Neg a) = neg_ℤ (value a)

-- its value is `more - less`, two polynomials over ℕ in the parts of the variables
abbrev mutual
  pub more : Polynomial → ℕ
  more (V z) = up z
  more (N n) = n
  more (a ⊕ b) = more a + more b
  more (a ⊖ b) = more a + less b
  more (a ⊗ b) = more a * more b + less a * less b
  more (Neg a) = less a

  pub less : Polynomial → ℕ
  less (V z) = down z
  less (N n) = 0
  less (a ⊕ b) = less a + less b
  less (a ⊖ b) = less a + more b
  less (a ⊗ b) = more a * less b + less a * more b
  less (Neg a) = more a

product : (u d p q u' d' p' q' : ℕ) → u + q ≡ p + d → u' + q' ≡ p' + d'
    → (u * u' + d * d') + (p * q' + q * p') ≡ (p * p' + q * q') + (u * d' + d * u')
product u d p q u' d' p' q' e f =
    omega (arith, ap (λ n. n * u') e, ap (λ n. n * d') e, ap (λ n. p * n) f, ap (λ n. q * n) f)

reads : (e : Polynomial) → up (value e) + less e ≡ more e + down (value e)
reads (V z) = omega arith
reads (N n) = omega arith
reads (a ⊕ b) = omega (arith, ints, reads a, reads b)
reads (a ⊖ b) = omega (arith, ints, reads a, reads b)
reads (a ⊗ b) =
    let e = product_is (value a) (value b) in
    let f =
    product (up (value a)) (down (value a)) (more a) (less a) (up (value b)) (down (value b))
    (more b) (less b) (reads a) (reads b) in
    omega (arith, e.0, e.1, f)
reads (Neg a) = omega (arith, ints, reads a)

-- two polynomials that multiply out to the same
pub ring : (e f : Polynomial) → more e + less f ≡ more f + less e → value e ≡ value f
ring e f h = let r = reads e in let s =
    reads f in same_in (value e) (value f) (omega (arith, r, s, h))

pub ring_le : (e f : Polynomial) → more e + less f ≤ more f + less e → value e ≤ℤ value f
ring_le e f h = omega (arith, ints, reads e, reads f, h)

pub ring_lt : (e f : Polynomial) → more e + less f < more f + less e → value e <ℤ value f
ring_lt e f h = omega (arith, ints, reads e, reads f, h)

pub read_equal : (e f : Polynomial) → value e ≡ value f → more e + less f ≡ more f + less e
read_equal e f h = omega (arith, reads e, reads f, same_out (value e) (value f) h)

pub read_le : (e f : Polynomial) → value e ≤ℤ value f → more e + less f ≤ more f + less e
read_le e f h = omega (arith, ints, reads e, reads f, h)

pub read_lt : (e f : Polynomial) → value e <ℤ value f → more e + less f < more f + less e
read_lt e f h = omega (arith, ints, reads e, reads f, h)

-- ---- for omega: products of sums at an atom
pub mul_add_at : (a b c : ℤ) → up (a *ℤ (b +ℤ c)) + down (a *ℤ b) + down (a *ℤ c)
    ≡ down (a *ℤ (b +ℤ c)) + up (a *ℤ b) + up (a *ℤ c)
mul_add_at a b c =
    omega (
      arith,
      ints,
      ap (λ (n : ℕ). up a * n) (sum_is_lem b c),
      ap (λ (n : ℕ). down a * n) (sum_is_lem b c),
    )

pub add_mul_at : (a b c : ℤ) → up ((a +ℤ b) *ℤ c) + down (a *ℤ c) + down (b *ℤ c)
    ≡ down ((a +ℤ b) *ℤ c) + up (a *ℤ c) + up (b *ℤ c)
add_mul_at a b c =
    omega (
      arith,
      ints,
      ap (λ (n : ℕ). n * up c) (sum_is_lem a b),
      ap (λ (n : ℕ). n * down c) (sum_is_lem a b),
    )

pub neg_mul_at : (a c : ℤ) → (up (neg_ℤ a *ℤ c) + up (a *ℤ c) ≡ down (neg_ℤ a *ℤ c) + down (a *ℤ c))
neg_mul_at a c =
    omega (
      arith,
      ints,
      ap (λ (n : ℕ). n * up c) (neg_is a).0,
      ap (λ (n : ℕ). n * up c) (neg_is a).1,
      ap (λ (n : ℕ). n * down c) (neg_is a).0,
      ap (λ (n : ℕ). n * down c) (neg_is a).1,
    )

pub mul_neg_at : (a c : ℤ) → (up (a *ℤ neg_ℤ c) + up (a *ℤ c) ≡ down (a *ℤ neg_ℤ c) + down (a *ℤ c))
mul_neg_at a c =
    omega (
      arith,
      ints,
      ap (λ (n : ℕ). up a * n) (neg_is c).0,
      ap (λ (n : ℕ). up a * n) (neg_is c).1,
      ap (λ (n : ℕ). down a * n) (neg_is c).0,
      ap (λ (n : ℕ). down a * n) (neg_is c).1,
    )

-- a product of three, of four
pub mul3_at : (a b c : ℤ)
    → (up (a *ℤ (b *ℤ c)) ≡ up a * up b * up c + up a * down b * down c + down a * up b * down c
    + down a * down b * up c)
    × (down (a *ℤ (b *ℤ c)) ≡ up a * up b * down c + up a * down b * up c + down a * up b * up c
    + down a * down b * down c)
mul3_at a b c =
    omega (
      arith,
      ints,
      ap (λ (n : ℕ). up a * n) (product_is b c).0,
      ap (λ (n : ℕ). up a * n) (product_is b c).1,
      ap (λ (n : ℕ). down a * n) (product_is b c).0,
      ap (λ (n : ℕ). down a * n) (product_is b c).1,
    )

pub assoc_at : (a b c : ℤ) → (up ((a *ℤ b) *ℤ c) ≡ up (a *ℤ (b *ℤ c)))
    × (down ((a *ℤ b) *ℤ c) ≡ down (a *ℤ (b *ℤ c)))
assoc_at a b c =
    omega (
      arith,
      ints,
      mul3_at a b c,
      ap (λ (n : ℕ). n * up c) (product_is a b).0,
      ap (λ (n : ℕ). n * up c) (product_is a b).1,
      ap (λ (n : ℕ). n * down c) (product_is a b).0,
      ap (λ (n : ℕ). n * down c) (product_is a b).1,
    )

pub mul4_at : (a b c d : ℤ)
    → (up (a *ℤ (b *ℤ (c *ℤ d))) ≡ up a
    * (up b * up c * up d + up b * down c * down d + down b * up c * down d + down b * down c
    * up d) + down a
    * (up b * up c * down d + up b * down c * up d + down b * up c * up d + down b * down c
    * down d))
    × (down (a *ℤ (b *ℤ (c *ℤ d))) ≡ down a
    * (up b * up c * up d + up b * down c * down d + down b * up c * down d + down b * down c
    * up d) + up a
    * (up b * up c * down d + up b * down c * up d + down b * up c * up d + down b * down c
    * down d))
mul4_at a b c d =
    omega (
      arith,
      product_is a (b *ℤ (c *ℤ d)),
      ap (λ (n : ℕ). up a * n) (mul3_at b c d).0,
      ap (λ (n : ℕ). up a * n) (mul3_at b c d).1,
      ap (λ (n : ℕ). down a * n) (mul3_at b c d).0,
      ap (λ (n : ℕ). down a * n) (mul3_at b c d).1,
    )

pub mul_add_mul_at : (a b c d : ℤ)
    → up (a *ℤ ((b +ℤ c) *ℤ d)) + down (a *ℤ (b *ℤ d)) + down (a *ℤ (c *ℤ d))
    ≡ down (a *ℤ ((b +ℤ c) *ℤ d)) + up (a *ℤ (b *ℤ d)) + up (a *ℤ (c *ℤ d))
mul_add_mul_at a b c d =
    omega (
      arith,
      ints,
      ap (λ (n : ℕ). up a * n) (add_mul_at b c d),
      ap (λ (n : ℕ). down a * n) (add_mul_at b c d),
    )

pub mul_mul_add_at : (a b c d : ℤ)
    → up (a *ℤ (d *ℤ (b +ℤ c))) + down (a *ℤ (d *ℤ b)) + down (a *ℤ (d *ℤ c))
    ≡ down (a *ℤ (d *ℤ (b +ℤ c))) + up (a *ℤ (d *ℤ b)) + up (a *ℤ (d *ℤ c))
mul_mul_add_at a b c d =
    omega (
      arith,
      ints,
      ap (λ (n : ℕ). up a * n) (mul_add_at d b c),
      ap (λ (n : ℕ). down a * n) (mul_add_at d b c),
    )

pub ruleset ring_z = (
  ints,
  mul_add_at,
  add_mul_at,
  neg_mul_at,
  mul_neg_at,
  mul3_at,
  mul4_at,
  assoc_at,
  mul_add_mul_at,
  mul_mul_add_at,
)

-- ---- named, for `rw` and `∙`

pub mul_comm_z : (a b : ℤ) → a *ℤ b ≡ b *ℤ a
mul_comm_z a b = ring (V a ⊗ V b) (V b ⊗ V a) (omega arith)

pub mul_assoc_z : (a b c : ℤ) → (a *ℤ b) *ℤ c ≡ a *ℤ (b *ℤ c)
mul_assoc_z a b c = ring ((V a ⊗ V b) ⊗ V c) (V a ⊗ (V b ⊗ V c)) (omega arith)

pub mul-add_z : (a b c : ℤ) → a *ℤ (b +ℤ c) ≡ a *ℤ b +ℤ a *ℤ c
mul-add_z a b c = ring (V a ⊗ (V b ⊕ V c)) (V a ⊗ V b ⊕ V a ⊗ V c) (omega arith)

pub add-mul_z : (a b c : ℤ) → (a +ℤ b) *ℤ c ≡ a *ℤ c +ℤ b *ℤ c
add-mul_z a b c = ring ((V a ⊕ V b) ⊗ V c) (V a ⊗ V c ⊕ V b ⊗ V c) (omega arith)

pub mul-sub_z : (a b c : ℤ) → a *ℤ (b -ℤ c) ≡ a *ℤ b -ℤ a *ℤ c
mul-sub_z a b c = ring (V a ⊗ (V b ⊖ V c)) (V a ⊗ V b ⊖ V a ⊗ V c) (omega arith)

pub sub-mul_z : (a b c : ℤ) → (a -ℤ b) *ℤ c ≡ a *ℤ c -ℤ b *ℤ c
sub-mul_z a b c = ring ((V a ⊖ V b) ⊗ V c) (V a ⊗ V c ⊖ V b ⊗ V c) (omega arith)

pub mul-zero_z : (a : ℤ) → a *ℤ pos 0 ≡ pos 0
mul-zero_z a = omega (arith, ints)

pub one-mul_z : (a : ℤ) → pos 1 *ℤ a ≡ a
one-mul_z a = omega (arith, ints)
