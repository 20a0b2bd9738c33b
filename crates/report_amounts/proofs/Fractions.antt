-- Euclid's steps give the lowest terms of a fraction.
use Rattle.std.proofs.Common.{◌≡◌, ◌<◌, ℕ, zero, suc, ◌+◌, ◌*◌, ◌/◌, ◌%◌, ◌==◌, ◌^◌, Bool, true}
use Rattle.std.proofs.Common.{false, ℤ, pos, negsuc, ◌+ℤ◌, ◌*ℤ◌, ◌<ℤ◌, true≢false, neg_ℤ, refl, sym}
use Rattle.std.proofs.Common.{ap, ◌∙◌, subst, arith}
use Rattle.std.specs.Prelude.{unsigned_abs, int_lt, ◌&&◌, Some, None, if◌then◌else◌}
use Rattle.std.specs.Int.{IsGcd}
use Rattle.std.proofs.lemmas.Int.{ints}
use Rattle.std.proofs.lemmas.Bool.{eqb-true, lt-ltb, ltb-true}
use Rattle.std.proofs.lemmas.Nat.{mod_below}
use Rattle.std.proofs.lemmas.Nat.Gcd.{IsGcd-from_zero, IsGcd-from_mod}
use Rattle.std.proofs.Math.Nat.{mul-div_cancel'}
use Rattle.report_rules.proofs.integer_laws.Cited.{mul_neg_at}
use Rattle.report_rules.specs.integer_laws.Range.{InRange}
use Rattle.report_rules.specs.integer_laws.Lowest.{IsLowest}
use Rattle.flow_evaluator.proofs.exact_numbers.Cited.{lowest_same}
use Rattle.flow_evaluator.specs.exact_numbers.Product.{IsPastLowest}
use Rattle.flow_evaluator.specs.exact_numbers.Sum.{IsSumInRange, IsPastSum}
use Rattle.report_rules.specs.text_rules.Amount.{signed}
use Rattle.report_rules.specs.Number.{Fraction, Number, common, gcd, lowest, is_in_range, kept}
use Rattle.report_rules.specs.Number.{parts, are_in_range, sum_in_range, plus}

common_is : (n a b : ℕ) → b < n → IsGcd a b (common n a b)
common_is zero a b h = absurd (omega arith)
common_is (suc n) a b h =
    at (b == 0) refl (λ p. common_is n b (a % b) (let l = mod_below a b p in omega (arith, l, h)))
  where
    at : (e : Bool) → (b == 0) ≡ e → (0 < b → IsGcd b (a % b) (common n b (a % b)))
        → IsGcd a b (common (suc n) a b)
    at true f later = rw f (IsGcd-from_zero a b (eqb-true b 0 f))
    at false f later = rw f (IsGcd-from_mod a b (common n b (a % b)) (later (above b f)))
      where
        above : (b : ℕ) → (b == 0) ≡ false → 0 < b
        above zero f = let g : true ≡ false = f in cc
        above (suc b) f = omega arith

pub gcd_is : (a b : ℕ) → IsGcd a b (gcd a b)
gcd_is a b = common_is (b + 1) a b (omega arith)

not_below : (n : ℕ) → int_lt (pos n) (pos 0) ≡ false
not_below n = grind (arith, ints)

pub lowest_of : (x y : ℤ) → pos 0 <ℤ y → IsLowest x y (lowest x y).num (lowest x y).den
lowest_of x (pos y) h = at x (gcd_is (unsigned_abs x) y)
  where
    at : (x : ℤ) → IsGcd (unsigned_abs x) y (gcd (unsigned_abs x) y)
        → IsLowest x (pos y) (lowest x (pos y)).num (lowest x (pos y)).den
    at (pos n) is = record {
      common = gcd n y;
      is_gcd = is;
      x-is = ap pos (sym (mul-div_cancel' (gcd n y) is.0))
          ∙ ap (λ (b : Bool). pos (gcd n y) *ℤ signed b (n / gcd n y)) (sym (not_below n));
      y-is = ap pos (sym (mul-div_cancel' (gcd n y) is.1));
    }
    at (negsuc n) is = record {
      common = gcd (suc n) y;
      is_gcd = is;
      x-is = ap (λ (k : ℕ). neg_ℤ (pos k)) (sym (mul-div_cancel' (gcd (suc n) y) is.0))
          ∙ sym (turned (gcd (suc n) y) (suc n / gcd (suc n) y));
      y-is = ap pos (sym (mul-div_cancel' (gcd (suc n) y) is.1));
    }
      where
        turned : (a b : ℕ) → pos a *ℤ neg_ℤ (pos b) ≡ neg_ℤ (pos (a * b))
        turned a b = omega (arith, ints, mul_neg_at (pos a) (pos b))
lowest_of x (negsuc y) h = absurd (omega (arith, ints))

pub lowest_is : (x y n d : ℤ) → pos 0 <ℤ y → IsLowest x y n d
    → lowest x y ≡ record { num = n; den = d }
lowest_is x y n d h l = let same = lowest_same h (lowest_of x y h) l in
    λ i. record { num = same.0 i; den = same.1 i }

-- a fraction in range is kept, and another is not
pub kept_in_range : (f : Fraction) → InRange f.num → InRange f.den → kept f ≡ Some f
kept_in_range f n d =
    rw (lt-ltb (unsigned_abs f.num) (2 ^ 127) n, lt-ltb (unsigned_abs f.den) (2 ^ 127) d) refl

pub kept_past : (x y : ℤ) → pos 0 <ℤ y → IsPastLowest x y → kept (lowest x y) ≡ None
kept_past x y h past =
    let same = lowest_is x y past.n past.d h past.lowest in
    ap kept same ∙ at (is_in_range past.n) refl (is_in_range past.d) refl
  where
    at : (a : Bool) → is_in_range past.n ≡ a → (b : Bool) → is_in_range past.d ≡ b
        → kept (record { num = past.n; den = past.d }) ≡ None
    at true e true f =
        absurd
        (past.past (
          ltb-true (unsigned_abs past.n) (2 ^ 127) e,
          ltb-true (unsigned_abs past.d) (2 ^ 127) f,
        ))
    at true e false f = rw (e, f) refl
    at false e b f = rw e refl

-- ---- sums

and_first : (a b : Bool) → (a && b) ≡ true → a ≡ true
and_first true b h = refl
and_first false b h = h

and_second : (a b : Bool) → (a && b) ≡ true → b ≡ true
and_second true b h = h
and_second false b h = let f : false ≡ true = h in cc

in_range_from : (z : ℤ) → is_in_range z ≡ true → InRange z
in_range_from z h = ltb-true (unsigned_abs z) (2 ^ 127) h

in_range_is : (z : ℤ) → InRange z → is_in_range z ≡ true
in_range_is z h = lt-ltb (unsigned_abs z) (2 ^ 127) h

all_from : (p q r s : ℤ) → are_in_range p q r s ≡ true → InRange p × InRange q × InRange r
    × InRange s
all_from p q r s h =
    let qrs = and_second (is_in_range p) (is_in_range q && (is_in_range r && is_in_range s)) h in
    let rs = and_second (is_in_range q) (is_in_range r && is_in_range s) qrs in (
      in_range_from p
          (and_first (is_in_range p) (is_in_range q && (is_in_range r && is_in_range s)) h),
      in_range_from q (and_first (is_in_range q) (is_in_range r && is_in_range s) qrs),
      in_range_from r (and_first (is_in_range r) (is_in_range s) rs),
      in_range_from s (and_second (is_in_range r) (is_in_range s) rs),
    )

all_true : (p q r s : ℤ) → InRange p × InRange q × InRange r × InRange s
    → are_in_range p q r s ≡ true
all_true p q r s (hp, hq, hr, hs) =
    rw (in_range_is p hp, in_range_is q hq, in_range_is r hr, in_range_is s hs) refl

module _ (x y : Fraction) (py : pos 0 <ℤ y.den) where
  abbrev part : Fraction
  part = parts x y

  -- what the sum is, by the test
  abbrev chosen : Bool → Number
  chosen b = if b then Some (lowest (x.num *ℤ y.den +ℤ y.num *ℤ x.den) (x.den *ℤ y.den)) else None

  by_test : (b : Bool) → sum_in_range x y (parts x y) ≡ b → plus (Some x) (Some y) ≡ chosen b
  by_test b e = ap chosen e

  pub sum_kept : pos 0 <ℤ (x.den *ℤ y.den) → (f : Fraction)
      → IsLowest (x.num *ℤ y.den +ℤ y.num *ℤ x.den) (x.den *ℤ y.den) f.num f.den
      → ¬ (IsPastSum x.num x.den y.num y.den) → plus (Some x) (Some y) ≡ Some f
  sum_kept pd f l never = at (sum_in_range x y (parts x y)) refl
    where
      at : (b : Bool) → sum_in_range x y (parts x y) ≡ b → plus (Some x) (Some y) ≡ Some f
      at true e = by_test true e
          ∙ ap (λ (g : Fraction). Some g)
          (lowest_is (x.num *ℤ y.den +ℤ y.num *ℤ x.den) (x.den *ℤ y.den) f.num f.den pd l)
      at false e = absurd (never (record {
        b_part = part.num;
        d_part = part.den;
        lowest = lowest_of x.den y.den py;
        past = λ r. let t =
            all_true (x.num *ℤ part.den) (y.num *ℤ part.num)
            (x.num *ℤ part.den +ℤ y.num *ℤ part.num) (part.num *ℤ y.den) r in
            true≢false (sym t ∙ e);
      }))

  pub sum_past : IsPastSum x.num x.den y.num y.den → plus (Some x) (Some y) ≡ None
  sum_past past = at (sum_in_range x y (parts x y)) refl
    where
      at : (b : Bool) → sum_in_range x y (parts x y) ≡ b → plus (Some x) (Some y) ≡ None
      at true e =
          let same = lowest_same py (lowest_of x.den y.den py) past.lowest in
          let all =
          all_from (x.num *ℤ part.den) (y.num *ℤ part.num)
          (x.num *ℤ part.den +ℤ y.num *ℤ part.num) (part.num *ℤ y.den) e in
          absurd
          (past.past
          (subst (λ (z : ℤ). IsSumInRange x.num y.num y.den z past.d_part) same.0
          (subst (λ (z : ℤ). IsSumInRange x.num y.num y.den part.num z) same.1 all)))
      at false e = by_test false e
