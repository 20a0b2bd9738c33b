-- Sums and products of fractions in lowest terms, and when they leave the range.
use Rattle.std.proofs.Common.{◌≡◌, ◌*◌, ℤ, pos, ◌+ℤ◌, ◌*ℤ◌, ◌<ℤ◌, sym, ap, ◌∙◌, subst, arith}
use Rattle.std.specs.Prelude.{unsigned_abs, ◌↔◌}
use Rattle.std.specs.Int.{IsGcd}
use Rattle.std.proofs.lemmas.Int.{unsigned_abs-mul}
use Rattle.std.proofs.lemmas.Nat.Gcd.{IsGcd-swap}
use Rattle.integer_laws.proofs.Cited.{V, ◌⊕◌, ◌⊗◌, ring, mul_pos, coprime-mul, coprime-divisors}
use Rattle.integer_laws.proofs.Cited.{part_divides}
use Rattle.integer_laws.specs.Range.{InRange}
use Rattle.integer_laws.specs.Lowest.{IsLowest}
use Rattle.exact_numbers.proofs.LowestLemmas.{lowest_same, lowest_cross, lowest_scaled}
use Rattle.exact_numbers.proofs.LowestLemmas.{lowest_from_cross}
use Rattle.exact_numbers.specs.Product.{IsPastLowest}
use Rattle.exact_numbers.specs.Sum.{IsSumInRange, IsPastSum}

-- ---- products: a / b times a' / b'; in lowest terms a / b' is n / d and a' / b is m / c

pub products_coprime : (a b a' b' n d m c : ℤ) → IsGcd (unsigned_abs a) (unsigned_abs b) 1
    → IsGcd (unsigned_abs a') (unsigned_abs b') 1 → IsLowest a b' n d → IsLowest a' b m c
    → IsGcd (unsigned_abs n) (unsigned_abs d) 1 → IsGcd (unsigned_abs m) (unsigned_abs c) 1
    → IsGcd (unsigned_abs (n *ℤ m)) (unsigned_abs (d *ℤ c)) 1
products_coprime a b a' b' n d m c s t l r h k =
    let x = coprime-mul (unsigned_abs n) (unsigned_abs d) (unsigned_abs c) h
    (coprime-divisors (unsigned_abs n) (unsigned_abs c) (unsigned_abs a) (unsigned_abs b)
    (part_divides (pos l.common) n a (sym l.x-is))
    (part_divides (pos r.common) c b (sym r.y-is)) s) in
    let y = coprime-mul (unsigned_abs m) (unsigned_abs d) (unsigned_abs c)
    (coprime-divisors (unsigned_abs m) (unsigned_abs d) (unsigned_abs a') (unsigned_abs b')
    (part_divides (pos r.common) m a' (sym r.x-is))
    (part_divides (pos l.common) d b' (sym l.y-is)) t) k in
    let z = IsGcd-swap (unsigned_abs d * unsigned_abs c) (unsigned_abs n * unsigned_abs m) 1
    (coprime-mul (unsigned_abs d * unsigned_abs c) (unsigned_abs n) (unsigned_abs m)
    (IsGcd-swap (unsigned_abs n) (unsigned_abs d * unsigned_abs c) 1 x)
    (IsGcd-swap (unsigned_abs m) (unsigned_abs d * unsigned_abs c) 1 y)) in
    rw (unsigned_abs-mul n m, unsigned_abs-mul d c) z

pub product_lowest : (a b a' b' n d m c : ℤ) → pos 0 <ℤ b → pos 0 <ℤ b' → pos 0 <ℤ d → pos 0 <ℤ c
    → IsLowest a b' n d → IsLowest a' b m c
    → IsGcd (unsigned_abs (n *ℤ m)) (unsigned_abs (d *ℤ c)) 1
    → IsLowest (a *ℤ a') (b *ℤ b') (n *ℤ m) (d *ℤ c)
product_lowest a b a' b' n d m c pb pb' pd pc l r h =
    lowest_from_cross (a *ℤ a') (b *ℤ b') (n *ℤ m) (d *ℤ c) (mul_pos b b' pb pb')
    (mul_pos d c pd pc) h
    (ring ((V n ⊗ V m) ⊗ (V b ⊗ V b')) ((V n ⊗ V b') ⊗ (V m ⊗ V b)) (omega arith)
    ∙ (ap (λ (z : ℤ). z *ℤ (m *ℤ b)) (lowest_cross l)
    ∙ (ap (λ (z : ℤ). (a *ℤ d) *ℤ z) (lowest_cross r)
    ∙ ring ((V a ⊗ V d) ⊗ (V a' ⊗ V c)) ((V a ⊗ V a') ⊗ (V d ⊗ V c)) (omega arith))))

-- the lowest terms are one pair, so they are out of range exactly if these are
pub past_lowest : (x y n d : ℤ) → pos 0 <ℤ y → IsLowest x y n d → (¬ (InRange n × InRange d))
    ↔ IsPastLowest x y
past_lowest x y n d p l = (
  λ past. record { n = n; d = d; lowest = l; past = past },
  λ h both.
      let same = lowest_same p l h.lowest in
      h.past (
        subst (λ (z : ℤ). InRange z) same.0 both.0,
        subst (λ (z : ℤ). InRange z) same.1 both.1,
      ),
)

-- ---- sums: a / b and c / d; b and d divided by their greatest common divisor are p and q

pub sum_lowest : (a b c d p q n e : ℤ) → IsLowest b d p q → IsLowest (a *ℤ q +ℤ c *ℤ p) (p *ℤ d) n e
    → IsLowest (a *ℤ d +ℤ c *ℤ b) (b *ℤ d) n e
sum_lowest a b c d p q n e l s =
    let g = pos l.common in
    let num : g *ℤ (a *ℤ q +ℤ c *ℤ p) ≡ a *ℤ d +ℤ c *ℤ b =
    ring (V g ⊗ (V a ⊗ V q ⊕ V c ⊗ V p)) (V a ⊗ (V g ⊗ V q) ⊕ V c ⊗ (V g ⊗ V p)) (omega arith)
    ∙ (ap (λ (z : ℤ). a *ℤ z +ℤ c *ℤ (g *ℤ p)) (sym l.y-is)
    ∙ ap (λ (z : ℤ). a *ℤ d +ℤ c *ℤ z) (sym l.x-is)) in
    let den : g *ℤ (p *ℤ d) ≡ b *ℤ d =
    ring (V g ⊗ (V p ⊗ V d)) ((V g ⊗ V p) ⊗ V d) (omega arith)
    ∙ ap (λ (z : ℤ). z *ℤ d) (sym l.x-is) in
    subst (λ (x : ℤ). IsLowest x (b *ℤ d) n e) num
    (subst (λ (y : ℤ). IsLowest (g *ℤ (a *ℤ q +ℤ c *ℤ p)) y n e) den (lowest_scaled l.common s))

pub no_past_sum : (a b c d p q : ℤ) → pos 0 <ℤ d → IsLowest b d p q → IsSumInRange a c d p q
    → ¬ (IsPastSum a b c d)
no_past_sum a b c d p q h l r past =
    let same = lowest_same h l past.lowest in
    past.past
    (subst (λ (z : ℤ). IsSumInRange a c d z past.d_part) same.0
    (subst (λ (z : ℤ). IsSumInRange a c d p z) same.1 r))
