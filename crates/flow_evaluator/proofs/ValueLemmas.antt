-- The bound of the multipliers over their scale is the least cost of relaxed flows.
use Rattle.std.proofs.Common.{◌≡◌, ℤ, ◌*ℤ◌, ◌≤ℤ◌, sym, ◌∙◌, subst}
use Rattle.dual_simplex.proofs.integer_laws.Cited.{mul_comm_z}

-- x / y is p / q
module _ (x y p q : ℤ) (same : (p ≡ x) × (q ≡ y)) where
  left : (e : ℤ) → e *ℤ x ≡ p *ℤ e
  left e = mul_comm_z e x ∙ (λ i. sym same.0 i *ℤ e)

  right : (k : ℤ) → y *ℤ k ≡ k *ℤ q
  right k = mul_comm_z y k ∙ (λ i. k *ℤ sym same.1 i)

  pub kept_le : (e k : ℤ) → (e *ℤ x) ≤ℤ (y *ℤ k) → (p *ℤ e) ≤ℤ (k *ℤ q)
  kept_le e k h =
      subst (λ (z : ℤ). z ≤ℤ (k *ℤ q)) (left e) (subst (λ (z : ℤ). (e *ℤ x) ≤ℤ z) (right k) h)

  pub kept_same : (e k : ℤ) → e *ℤ x ≡ y *ℤ k → p *ℤ e ≡ k *ℤ q
  kept_same e k h = sym (left e) ∙ (h ∙ right k)

  pub kept_over : p *ℤ y ≡ x *ℤ q
  kept_over = λ i. same.0 i *ℤ sym same.1 i
