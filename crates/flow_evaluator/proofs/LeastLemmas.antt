-- What the bound of multipliers says of the cost of flows.
use Rattle.std.proofs.Common.{◌≡◌, ℤ, pos, ◌*ℤ◌, ◌≤ℤ◌, ◌<ℤ◌, ap, ◌∙◌, subst, arith}
use Rattle.std.proofs.lemmas.Int.{ints}
use Rattle.dual_simplex.proofs.integer_laws.Cited.{V, ◌⊗◌, ring, mul-le_left, cancel_le}

-- With flows over a that cost c and a bound b with a * b = d * c, others over e cost at least as
-- much: e * b ≤ d * k.
pub least_cost : (a b c d e k : ℤ) → pos 1 ≤ℤ a → pos 1 ≤ℤ d → a *ℤ b ≡ d *ℤ c
    → (e *ℤ b) ≤ℤ (d *ℤ k) → (c *ℤ e) ≤ℤ (k *ℤ a)
least_cost a b c d e k pa pd reached bound =
    let p : pos 0 <ℤ d = omega (arith, ints) in
    let q : pos 0 ≤ℤ a = omega (arith, ints) in
    let m : (a *ℤ (e *ℤ b)) ≤ℤ (a *ℤ (d *ℤ k)) = mul-le_left a (e *ℤ b) (d *ℤ k) bound q in
    let left : a *ℤ (e *ℤ b) ≡ d *ℤ (c *ℤ e) =
    ring (V a ⊗ (V e ⊗ V b)) (V e ⊗ (V a ⊗ V b)) (omega arith)
    ∙ (ap (λ (z : ℤ). e *ℤ z) reached
    ∙ ring (V e ⊗ (V d ⊗ V c)) (V d ⊗ (V c ⊗ V e)) (omega arith)) in
    let right : a *ℤ (d *ℤ k) ≡ d *ℤ (k *ℤ a) =
    ring (V a ⊗ (V d ⊗ V k)) (V d ⊗ (V k ⊗ V a)) (omega arith) in
    cancel_le d (c *ℤ e) (k *ℤ a) p
    (subst (λ (z : ℤ). z ≤ℤ (d *ℤ (k *ℤ a))) left
    (subst (λ (z : ℤ). (a *ℤ (e *ℤ b)) ≤ℤ z) right m))
