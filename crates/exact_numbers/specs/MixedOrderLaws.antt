-- Not a definition to believe: the laws of `mixed_cmp`. They are in specs because the members of
-- `Ord` and `PartialOrd` cite them.
use Rattle.std.specs.Prelude.{◌≡◌, ◌<◌, ℕ, ℤ, pos, ◌*ℤ◌, ◌<ℤ◌}
use Rattle.std.proofs.Common.{sym, ap, ◌∙◌, arith}
use Rattle.std.specs.Cmp.{IsTotalOrder, int_cmp_total, int_cmp_is, int_ranked}
use Rattle.std.specs.Ordering.{int_cmp}
use Rattle.std.specs.declared.cmp.Ordering.TheVariants.{Less, Equal}
use Rattle.integer_laws.proofs.Cited.{ring_z, V, ◌⊗◌, ring, mul-lt_left, cancel_lt, int_cmp-mul}
use Rattle.exact_numbers.specs.declared.number.Mixed.{Mixed}
use Rattle.exact_numbers.specs.Number.{numerator, denominator}
use Rattle.exact_numbers.specs.MixedOrder.{mixed_cmp}

pub denominator_positive : (m : Mixed) → pos 0 <ℤ denominator m
denominator_positive m = above m.rest m.den m.below
  where
    above : (r d : ℕ) → r < d → pos 0 <ℤ pos d
    above r d h = omega (arith, ring_z)

chain : (a b c d e f : ℤ) → pos 0 <ℤ b → pos 0 <ℤ d → pos 0 <ℤ f → int_cmp (a *ℤ d) (c *ℤ b) ≡ Less
    → int_cmp (c *ℤ f) (e *ℤ d) ≡ Less → int_cmp (a *ℤ f) (e *ℤ b) ≡ Less
chain a b c d e f pb pd pf h k =
    let l : (a *ℤ d) <ℤ (c *ℤ b) = int_ranked (a *ℤ d) (c *ℤ b) Less (sym h) in
    let m : (c *ℤ f) <ℤ (e *ℤ d) = int_ranked (c *ℤ f) (e *ℤ d) Less (sym k) in
    let n : (f *ℤ (a *ℤ d)) <ℤ (f *ℤ (c *ℤ b)) = mul-lt_left f (a *ℤ d) (c *ℤ b) l pf in
    let o : (b *ℤ (c *ℤ f)) <ℤ (b *ℤ (e *ℤ d)) = mul-lt_left b (c *ℤ f) (e *ℤ d) m pb in
    sym (int_cmp_is (a *ℤ f) (e *ℤ b) Less
    (cancel_lt d (a *ℤ f) (e *ℤ b) pd (omega (arith, ring_z))))

-- fractions of one value compare the same way with a third
alike : (a b c d e f : ℤ) → pos 0 <ℤ b → pos 0 <ℤ d → a *ℤ d ≡ c *ℤ b
    → int_cmp (a *ℤ f) (e *ℤ b) ≡ int_cmp (c *ℤ f) (e *ℤ d)
alike a b c d e f pb pd h =
    sym (int_cmp-mul d (a *ℤ f) (e *ℤ b) pd)
    ∙ (ap (λ (z : ℤ). int_cmp z (d *ℤ (e *ℤ b)))
    (turn a d f ∙ (ap (λ (z : ℤ). z *ℤ f) h ∙ sym (turn c b f)))
    ∙ (ap (λ (z : ℤ). int_cmp (b *ℤ (c *ℤ f)) z)
    (ring (V d ⊗ (V e ⊗ V b)) (V b ⊗ (V e ⊗ V d)) (omega arith))
    ∙ int_cmp-mul b (c *ℤ f) (e *ℤ d) pb))
  where
    turn : (a d f : ℤ) → d *ℤ (a *ℤ f) ≡ (a *ℤ d) *ℤ f
    turn a d f = ring (V d ⊗ (V a ⊗ V f)) ((V a ⊗ V d) ⊗ V f) (omega arith)

pub mixed_cmp_total : IsTotalOrder mixed_cmp
mixed_cmp_total = record {
  antisymm =
      λ x y. int_cmp_total.antisymm (numerator x *ℤ denominator y) (numerator y *ℤ denominator x);
  trans =
      λ x y z h k. chain (numerator x) (denominator x) (numerator y) (denominator y) (numerator z)
      (denominator z) (denominator_positive x) (denominator_positive y) (denominator_positive z) h
      k;
  congr =
      λ x y z h. alike (numerator x) (denominator x) (numerator y) (denominator y) (numerator z)
      (denominator z) (denominator_positive x) (denominator_positive y)
      (int_ranked (numerator x *ℤ denominator y) (numerator y *ℤ denominator x) Equal (sym h));
}
