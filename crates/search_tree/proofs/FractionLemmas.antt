-- The order of fractions by cross products, under positive denominators.
use Rattle.std.proofs.Common.{arith, pos, ℤ, ◌*ℤ◌, ◌≤ℤ◌}
use Rattle.std.proofs.lemmas.Int.{ints}
use Rattle.tree_laws.proofs.integer_laws.Cited.{ring_z, mul-le_right, cancel_le}

-- p/q ≤ r/s and r/s ≤ t/u
pub fraction_trans : (p q r s t u : ℤ) → pos 1 ≤ℤ q → pos 1 ≤ℤ s → pos 1 ≤ℤ u → (p *ℤ s) ≤ℤ (r *ℤ q)
    → (r *ℤ u) ≤ℤ (t *ℤ s) → (p *ℤ u) ≤ℤ (t *ℤ q)
fraction_trans p q r s t u hq hs hu h k =
    let a : ((p *ℤ s) *ℤ u) ≤ℤ ((r *ℤ q) *ℤ u) =
    mul-le_right (p *ℤ s) (r *ℤ q) u h (omega (arith, ints)) in
    let b : ((r *ℤ u) *ℤ q) ≤ℤ ((t *ℤ s) *ℤ q) =
    mul-le_right (r *ℤ u) (t *ℤ s) q k (omega (arith, ints)) in
    cancel_le s (p *ℤ u) (t *ℤ q) (omega (arith, ints)) (omega (arith, ring_z))
