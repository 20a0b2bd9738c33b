-- The order of fractions by cross products.
use Rattle.std.proofs.Common.{◌≡◌, true, false, arith, pos, ℤ, ◌*ℤ◌, ◌≤ℤ◌, ◌<ℤ◌}
use Rattle.std.specs.Ordering.{int_cmp, is_le, is_eq}
use Rattle.std.specs.declared.cmp.Ordering.{Ordering}
use Rattle.std.specs.declared.cmp.Ordering.TheVariants.{Less, Equal, Greater}
use Rattle.std.proofs.lemmas.Cmp.{int_ranked}
use Rattle.std.proofs.lemmas.Int.{ints}
use Rattle.scaled_flows.specs.exact_numbers.declared.number.Mixed.{Mixed}
use Rattle.scaled_flows.specs.exact_numbers.Number.{denominator}
use Rattle.scaled_flows.specs.exact_numbers.MixedOrderLaws.{denominator_positive}
use Rattle.scaled_flows.proofs.integer_laws.Cited.{ring_z, mul-le_right, cancel_le}

pub no_more_of_same : (a b : ℤ) → a ≡ b → a ≤ℤ b
no_more_of_same a b e = omega (arith, ints)

pub from_one : (a : ℤ) → pos 0 <ℤ a → pos 1 ≤ℤ a
from_one a h = omega (arith, ints)

-- the denominator of a mixed number
pub over_one : (m : Mixed) → pos 1 ≤ℤ denominator m
over_one m = from_one (denominator m) (denominator_positive m)

-- what a comparison says that does not answer greater
pub le_from : (x y : ℤ) (r : Ordering) → r ≡ int_cmp x y → is_le r ≡ true → x ≤ℤ y
le_from x y Less e t = let h : x <ℤ y = int_ranked x y Less e in omega (arith, ints)
le_from x y Equal e t = let h : x ≡ y = int_ranked x y Equal e in omega (arith, ints)
le_from x y Greater e t = absurd (let k : false ≡ true = t in cc)

-- what a comparison says that answers equal
pub equal_from : (x y : ℤ) (r : Ordering) → r ≡ int_cmp x y → is_eq r ≡ true → x ≡ y
equal_from x y Less e t = absurd (let k : false ≡ true = t in cc)
equal_from x y Equal e t = int_ranked x y Equal e
equal_from x y Greater e t = absurd (let k : false ≡ true = t in cc)

-- p / q ≤ r / s and r / s ≤ t / u
pub through : (p q r s t u : ℤ) → pos 1 ≤ℤ q → pos 1 ≤ℤ s → pos 1 ≤ℤ u → (p *ℤ s) ≤ℤ (r *ℤ q)
    → (r *ℤ u) ≤ℤ (t *ℤ s) → (p *ℤ u) ≤ℤ (t *ℤ q)
through p q r s t u hq hs hu h k =
    let a : ((p *ℤ s) *ℤ u) ≤ℤ ((r *ℤ q) *ℤ u) =
    mul-le_right (p *ℤ s) (r *ℤ q) u h (omega (arith, ints)) in
    let b : ((r *ℤ u) *ℤ q) ≤ℤ ((t *ℤ s) *ℤ q) =
    mul-le_right (r *ℤ u) (t *ℤ s) q k (omega (arith, ints)) in
    cancel_le s (p *ℤ u) (t *ℤ q) (omega (arith, ints)) (omega (arith, ring_z))
