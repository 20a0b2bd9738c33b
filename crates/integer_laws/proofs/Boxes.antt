-- A linear function on a box, the range from one number to another: it lies between its values at
-- the ends.
use Rattle.std.proofs.Common.{◌≡◌, arith, pos, ℤ, ◌-ℤ◌, ◌*ℤ◌, ◌≤ℤ◌}
use Rattle.std.proofs.lemmas.Int.{ints, by_lt_z}
use Rattle.std.specs.Int.{int_min, int_max}
use Rattle.integer_laws.proofs.Ring.{ring_z, V, ◌⊖◌, ◌⊗◌, ring_le, read_le}
use Rattle.integer_laws.proofs.Order.{mul_nonneg, mul-le_left, mul-le_left_neg, int_min-le_left}
use Rattle.integer_laws.proofs.Order.{int_min-le_right, left-le_int_max, right-le_int_max}
use Rattle.integer_laws.proofs.Order.{le-int_min}

-- at least the lesser of its values at the ends
pub box_least : (e low high d z : ℤ) → pos 0 ≤ℤ d → (low *ℤ d) ≤ℤ z → z ≤ℤ (high *ℤ d)
    → (d *ℤ int_min (e *ℤ low) (e *ℤ high)) ≤ℤ (e *ℤ z)
box_least e low high d z dn lo hi =
    by_lt_z e (pos 0)
    (λ neg.
    let a : (e *ℤ (high *ℤ d)) ≤ℤ (e *ℤ z) =
    mul-le_left_neg e z (high *ℤ d) hi (omega (arith, ints)) in
    let b : (d *ℤ int_min (e *ℤ low) (e *ℤ high)) ≤ℤ (d *ℤ (e *ℤ high)) =
    mul-le_left d (int_min (e *ℤ low) (e *ℤ high)) (e *ℤ high)
    (int_min-le_right (e *ℤ low) (e *ℤ high)) dn in
    let s : d *ℤ (e *ℤ high) ≡ e *ℤ (high *ℤ d) = omega (arith, ring_z) in
    omega (arith, ints))
    (λ nonneg.
    let a : (e *ℤ (low *ℤ d)) ≤ℤ (e *ℤ z) = mul-le_left e (low *ℤ d) z lo nonneg in
    let b : (d *ℤ int_min (e *ℤ low) (e *ℤ high)) ≤ℤ (d *ℤ (e *ℤ low)) =
    mul-le_left d (int_min (e *ℤ low) (e *ℤ high)) (e *ℤ low)
    (int_min-le_left (e *ℤ low) (e *ℤ high)) dn in
    let s : d *ℤ (e *ℤ low) ≡ e *ℤ (low *ℤ d) = omega (arith, ring_z) in
    omega (arith, ints))

-- at most the greater of its values at the ends
pub box_most : (e low high d z : ℤ) → pos 0 ≤ℤ d → (low *ℤ d) ≤ℤ z → z ≤ℤ (high *ℤ d)
    → (e *ℤ z) ≤ℤ (d *ℤ int_max (e *ℤ low) (e *ℤ high))
box_most e low high d z dn lo hi =
    by_lt_z e (pos 0)
    (λ neg.
    let a : (e *ℤ z) ≤ℤ (e *ℤ (low *ℤ d)) =
    mul-le_left_neg e (low *ℤ d) z lo (omega (arith, ints)) in
    let b : (d *ℤ (e *ℤ low)) ≤ℤ (d *ℤ int_max (e *ℤ low) (e *ℤ high)) =
    mul-le_left d (e *ℤ low) (int_max (e *ℤ low) (e *ℤ high))
    (left-le_int_max (e *ℤ low) (e *ℤ high)) dn in
    let s : d *ℤ (e *ℤ low) ≡ e *ℤ (low *ℤ d) = omega (arith, ring_z) in
    omega (arith, ints))
    (λ nonneg.
    let a : (e *ℤ z) ≤ℤ (e *ℤ (high *ℤ d)) = mul-le_left e z (high *ℤ d) hi nonneg in
    let b : (d *ℤ (e *ℤ high)) ≤ℤ (d *ℤ int_max (e *ℤ low) (e *ℤ high)) =
    mul-le_left d (e *ℤ high) (int_max (e *ℤ low) (e *ℤ high))
    (right-le_int_max (e *ℤ low) (e *ℤ high)) dn in
    let s : d *ℤ (e *ℤ high) ≡ e *ℤ (high *ℤ d) = omega (arith, ring_z) in
    omega (arith, ints))

-- a times the lower end less b times the upper end is at most a - b times any number between
pub box_ends : (a b low high z : ℤ) → pos 0 ≤ℤ a → pos 0 ≤ℤ b → low ≤ℤ z → z ≤ℤ high
    → (a *ℤ low -ℤ b *ℤ high) ≤ℤ ((a -ℤ b) *ℤ z)
box_ends a b low high z pa pb lo hi =
    let x = mul_nonneg a (z -ℤ low) pa (omega (arith, ints)) in
    let y = mul_nonneg b (high -ℤ z) pb (omega (arith, ints)) in
    let x' = read_le (V (pos 0)) (V a ⊗ (V z ⊖ V low)) x in
    let y' = read_le (V (pos 0)) (V b ⊗ (V high ⊖ V z)) y in
    ring_le (V a ⊗ V low ⊖ V b ⊗ V high) ((V a ⊖ V b) ⊗ V z) (omega (arith, x', y'))

pub box_ends-least : (a b low high : ℤ) → pos 0 ≤ℤ a → pos 0 ≤ℤ b → low ≤ℤ high
    → (a *ℤ low -ℤ b *ℤ high) ≤ℤ int_min ((a -ℤ b) *ℤ low) ((a -ℤ b) *ℤ high)
box_ends-least a b low high pa pb h =
    le-int_min (a *ℤ low -ℤ b *ℤ high) ((a -ℤ b) *ℤ low) ((a -ℤ b) *ℤ high)
    (box_ends a b low high low pa pb (omega (arith, ints)) h)
    (box_ends a b low high high pa pb h (omega (arith, ints)))
