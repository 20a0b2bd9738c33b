-- Each basis has values and common denominators.
use Rattle.std.proofs.Common.{◌≡◌, ℕ, zero, suc, ◌%◌, ◌≤◌, ◌⊎◌, inl, inr, Bool, true, false, ℤ, pos}
use Rattle.std.proofs.Common.{◌*ℤ◌, ◌≤ℤ◌, ◌<ℤ◌, refl, sym, ◌∙◌, subst, arith}
use Rattle.std.specs.Prelude.{unsigned_abs, int_div}
use Rattle.std.specs.Int.{IsGcd}
use Rattle.std.proofs.lemmas.Int.{ints}
use Rattle.std.proofs.lemmas.Nat.Gcd.{IsGcd-from_zero, IsGcd-from_mod, dvd-zero, dvd_refl}
use Rattle.flow_program.proofs.integer_laws.Cited.{gcd_positive, sign_cases}
use Rattle.flow_program.specs.integer_laws.Lowest.{IsLowest}
use Rattle.flow_program.proofs.exact_numbers.Cited.{quotient_exact}
use Rattle.flow_program.specs.flow_rules.LinearProgram.{LinearProgram}
use Rattle.flow_program.specs.flow_rules.ReadFlows.{IsLcm}
use Rattle.dual_simplex.specs.Rows.{Rows, table, basis}
use Rattle.dual_simplex.specs.Choice.{IsOfSize, columns_of}
use Rattle.dual_simplex.specs.Reading.{Reading, IsOwnPositive}
use Rattle.dual_simplex.proofs.LcmLemmas.{lcm_is}
use Rattle.dual_simplex.proofs.ValueLemmas.{right_same}

-- ---- a greatest common divisor, lowest terms and a least common multiple there always are

gcd_exists : (fuel a b : ℕ) → b ≤ fuel → (g : ℕ) × IsGcd a b g
gcd_exists fuel a zero h = (a, IsGcd-from_zero a 0 refl)
gcd_exists zero a (suc b) h = absurd (omega arith)
gcd_exists (suc fuel) a (suc b) h =
    let r = gcd_exists fuel (suc b) (a % suc b) (omega arith) in
    (r.0, IsGcd-from_mod a (suc b) r.0 r.1)

record HasLowest (x y : ℤ) : Type 0 where
  first : ℤ
  second : ℤ
  is : IsLowest x y first second

lowest_exists : (x y : ℤ) → pos 0 <ℤ y → HasLowest x y
lowest_exists x y h =
    let r = gcd_exists (unsigned_abs y) (unsigned_abs x) (unsigned_abs y) (omega arith) in
    let g : pos 0 <ℤ pos r.0 = gcd_positive x y (pos r.0) h (omega (arith, ints)) r.1 in
    record {
      first = int_div x (pos r.0);
      second = int_div y (pos r.0);
      is =
          record {
            common = r.0;
            is_gcd = r.1;
            x-is =
                sym (quotient_exact x (pos r.0) g r.1.0);
            y-is =
                sym (quotient_exact y (pos r.0) g r.1.1);
          };
    }

record HasLcm (a b : ℕ) : Type 0 where
  multiple : ℕ
  is : IsLcm a b multiple

lcm_exists : (a b : ℕ) → HasLcm a b
lcm_exists zero b =
    record {
      multiple = 0;
      is =
          record { left = dvd_refl 0; right = dvd-zero b; least = λ c h k. h };
    }
lcm_exists (suc a) zero =
    record {
      multiple = 0;
      is =
          record { left = dvd-zero (suc a); right = dvd_refl 0; least = λ c h k. k };
    }
lcm_exists (suc a) (suc b) =
    let h : pos 0 <ℤ pos (suc b) = omega (arith, ints) in
    let low = lowest_exists (pos (suc a)) (pos (suc b)) h in
    record {
      multiple = unsigned_abs (pos (suc a) *ℤ low.second);
      is =
          lcm_is (pos (suc a)) (pos (suc b)) low.first low.second h low.is;
    }

-- ---- the values of a basis

record ValueAt (r : Rows) (i : ℕ) : Type 0 where
  right : ℤ
  own : ℤ
  basic : basis r i ≡ true → pos 0 <ℤ table r i i
      → IsLowest (table r i (columns_of r)) (table r i i) right own
  outside : basis r i ≡ false → (right ≡ pos 0) × (own ≡ pos 1)

not_positive : (z : ℤ) → z ≤ℤ pos 0 → pos 0 <ℤ z → ⊥
not_positive z h k = omega (arith, ints)

differ : {b : Bool} → b ≡ true → b ≡ false → ⊥
differ h k = let e : true ≡ false = sym h ∙ k in cc

pub bool_cases : (b : Bool) → (b ≡ true) ⊎ (b ≡ false)
bool_cases true = inl refl
bool_cases false = inr refl

value_at : (r : Rows) (i : ℕ) → ValueAt r i
value_at r i = elim (bool_cases (basis r i)) [
  | inl e ↦ elim (sign_cases (table r i i)) [
    | inl positive ↦ let low = lowest_exists (table r i (columns_of r)) (table r i i) positive in
        record {
          right = low.first;
          own = low.second;
          basic = λ _ _. low.is;
          outside =
              λ f. absurd (differ e f);
        }
    | inr least
        ↦ record {
          right = pos 0;
          own = pos 1;
          basic =
              λ _ h. absurd (not_positive (table r i i) least h);
          outside = λ f. (refl, refl);
        }
  ]
  | inr e
      ↦ record {
        right = pos 0;
        own = pos 1;
        basic = λ h _. absurd (differ h e);
        outside =
            λ f. (refl, refl);
      }
]

denominator : Rows → ℕ → ℤ
denominator r zero = pos 1
denominator r (suc i) =
    pos ((lcm_exists (unsigned_abs (denominator r i)) (unsigned_abs ((value_at r i).own))).multiple)

first_denominator : (r : Rows) → denominator r 0 ≡ pos 1
unfolding denominator
first_denominator r = refl

not_negative : (r : Rows) (i : ℕ) → pos 0 ≤ℤ denominator r (suc i)
unfolding denominator
not_negative r i = omega (arith, ints)

next_denominator : (r : Rows) (i : ℕ)
    → IsLcm (unsigned_abs (denominator r i)) (unsigned_abs ((value_at r i).own))
    (unsigned_abs (denominator r (suc i)))
unfolding denominator
next_denominator r i =
    (lcm_exists (unsigned_abs (denominator r i)) (unsigned_abs ((value_at r i).own))).is

pub reading_of : (p : LinearProgram) (r : Rows) → IsOfSize p r → IsOwnPositive r → Reading p r
reading_of p r s h = record {
  size = s;
  own = λ i. (value_at r i).own;
  right = λ i. (value_at r i).right;
  den = denominator r;
  values = record {
    basic =
        λ i below b. subst
        (λ (k : ℕ). IsLowest (table r i k) (table r i i) ((value_at r i).right)
        ((value_at r i).own)) (sym (right_same p r s))
        ((value_at r i).basic b (h i (omega (arith, s.units)) b));
    outside-right = λ i below b. ((value_at r i).outside b).0;
    outside-own = λ i below b. ((value_at r i).outside b).1;
    first = first_denominator r;
    not_negative = λ i below. not_negative r i;
    next = λ i below. next_denominator r i;
  };
}

-- a program of the size of the rows
plain : Rows → LinearProgram
plain r =
    record {
      units = r.units;
      rows = r.rows;
      rate = λ j i. pos 0;
      low = λ i. pos 0;
      high =
          λ i. pos 0;
      cost = λ i. pos 0;
      fixed = pos 0;
      floor = λ j. pos 0;
      ceiling = λ j. pos 0;
    }

pub some_reading : (r : Rows) → IsOwnPositive r → (p : LinearProgram) × Reading p r
unfolding plain
some_reading r h = (plain r, reading_of (plain r) r (record { units = refl; rows = refl }) h)
