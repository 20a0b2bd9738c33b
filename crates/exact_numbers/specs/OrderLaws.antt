-- Not a definition to believe: the laws of `fraction_cmp`. They are in specs because the members of
-- `Ord` and `PartialOrd` cite them.
use Rattle.std.specs.Prelude.{◌≡◌, Bool, true, false, ◌&&◌, ℤ, pos, ◌*ℤ◌, ◌<ℤ◌, unsigned_abs, refl}
use Rattle.std.specs.Int.{IsGcd}
use Rattle.std.proofs.Common.{sym, ap, ◌∙◌, arith, true≢false}
use Rattle.std.specs.Cmp.{IsTotalOrder, int_cmp_total, int_cmp_is, int_ranked, both_ways}
use Rattle.std.specs.Cmp.{signed_Decides}
use Rattle.std.specs.Ordering.{int_cmp, int_eq, eq_by_cmp}
use Rattle.std.specs.declared.cmp.Ordering.TheVariants.{Less, Equal}
use Rattle.integer_laws.proofs.Cited.{ring_z, V, ◌⊗◌, ring, mul-lt_left, cancel_lt, int_cmp-mul}
use Rattle.integer_laws.proofs.Cited.{lowest_unique}
use Rattle.exact_numbers.specs.declared.fraction.Frac.{Frac}
use Rattle.exact_numbers.specs.Order.{fraction_cmp}

chain : (a b c d e f : ℤ) → pos 0 <ℤ b → pos 0 <ℤ d → pos 0 <ℤ f → int_cmp (a *ℤ d) (c *ℤ b) ≡ Less
    → int_cmp (c *ℤ f) (e *ℤ d) ≡ Less → int_cmp (a *ℤ f) (e *ℤ b) ≡ Less
chain a b c d e f pb pd pf h k =
    let l : (a *ℤ d) <ℤ (c *ℤ b) = int_ranked (a *ℤ d) (c *ℤ b) Less (sym h) in
    let m : (c *ℤ f) <ℤ (e *ℤ d) = int_ranked (c *ℤ f) (e *ℤ d) Less (sym k) in
    let n : (f *ℤ (a *ℤ d)) <ℤ (f *ℤ (c *ℤ b)) = mul-lt_left f (a *ℤ d) (c *ℤ b) l pf in
    let o : (b *ℤ (c *ℤ f)) <ℤ (b *ℤ (e *ℤ d)) = mul-lt_left b (c *ℤ f) (e *ℤ d) m pb in
    sym (int_cmp_is (a *ℤ f) (e *ℤ b) Less
    (cancel_lt d (a *ℤ f) (e *ℤ b) pd (omega (arith, ring_z))))

-- fractions of one value compare the same way with a third
alike : (a b c d e f : ℤ) → pos 0 <ℤ b → pos 0 <ℤ d → a *ℤ d ≡ c *ℤ b
    → int_cmp (a *ℤ f) (e *ℤ b) ≡ int_cmp (c *ℤ f) (e *ℤ d)
alike a b c d e f pb pd h =
    sym (int_cmp-mul d (a *ℤ f) (e *ℤ b) pd)
    ∙ (ap (λ (z : ℤ). int_cmp z (d *ℤ (e *ℤ b)))
    (turn a d f ∙ (ap (λ (z : ℤ). z *ℤ f) h ∙ sym (turn c b f)))
    ∙ (ap (λ (z : ℤ). int_cmp (b *ℤ (c *ℤ f)) z)
    (ring (V d ⊗ (V e ⊗ V b)) (V b ⊗ (V e ⊗ V d)) (omega arith))
    ∙ int_cmp-mul b (c *ℤ f) (e *ℤ d) pb))
  where
    turn : (a d f : ℤ) → d *ℤ (a *ℤ f) ≡ (a *ℤ d) *ℤ f
    turn a d f = ring (V d ⊗ (V a ⊗ V f)) ((V a ⊗ V d) ⊗ V f) (omega arith)

pub fraction_cmp_total : IsTotalOrder fraction_cmp
fraction_cmp_total = record {
  antisymm = λ x y. int_cmp_total.antisymm (x.num *ℤ y.den) (y.num *ℤ x.den);
  trans =
      λ x y z h k. chain x.num x.den y.num y.den z.num z.den x.positive y.positive z.positive h k;
  congr =
      λ x y z h. alike x.num x.den y.num y.den z.num z.den x.positive y.positive
      (int_ranked (x.num *ℤ y.den) (y.num *ℤ x.den) Equal (sym h));
}

first_true : (a b : Bool) → (a && b) ≡ true → a ≡ true
first_true true b h = refl
first_true false b h = h

second_true : (a b : Bool) → (a && b) ≡ true → b ≡ true
second_true true b h = h
second_true false b h = absurd (true≢false (sym h))

both_true : (a b : Bool) → a ≡ true → b ≡ true → (a && b) ≡ true
both_true true b h k = k
both_true false b h k = h

-- the fields are equal exactly if the numbers are, since a number has one form in lowest terms
fields_tie : (n d m e : ℤ) → pos 0 <ℤ d → pos 0 <ℤ e → IsGcd (unsigned_abs n) (unsigned_abs d) 1
    → IsGcd (unsigned_abs m) (unsigned_abs e) 1
    → (int_eq n m && int_eq d e) ≡ int_eq (n *ℤ e) (m *ℤ d)
fields_tie n d m e pd pe h k =
    both_ways (int_eq n m && int_eq d e) (int_eq (n *ℤ e) (m *ℤ d))
    (λ t.
    let a : n ≡ m = (signed_Decides n m).0 (first_true (int_eq n m) (int_eq d e) t) in
    let b : d ≡ e = (signed_Decides d e).0 (second_true (int_eq n m) (int_eq d e) t) in
    (signed_Decides (n *ℤ e) (m *ℤ d)).1
    (ap (λ (z : ℤ). z *ℤ e) a ∙ ap (λ (z : ℤ). m *ℤ z) (sym b)))
    (λ t.
    let one : (n ≡ m) × (d ≡ e) =
    lowest_unique n d m e pd pe h k ((signed_Decides (n *ℤ e) (m *ℤ d)).0 t) in
    both_true (int_eq n m) (int_eq d e) ((signed_Decides n m).1 one.0)
    ((signed_Decides d e).1 one.1))

pub fraction_cmp_ties : (x y : Frac)
    → (int_eq x.num y.num && int_eq x.den y.den) ≡ eq_by_cmp fraction_cmp x y
fraction_cmp_ties x y = fields_tie x.num x.den y.num y.den x.positive y.positive x.lowest y.lowest
