-- The combination of a row with a pivot row that makes one entry 0, and the first number on the way
-- that is out of range.
use Rattle.std.specs.Prelude.{ℕ, ◌<◌, ◌≡◌, ◌^◌, ℤ, pos, ◌*ℤ◌, ◌-ℤ◌, unsigned_abs, List, [], ◌∷◌}
use Rattle.std.specs.Prelude.{cond, length, slice_index_or, Option, Some, None, nat_lt, Bool}
use Rattle.integer_laws.specs.declared.which.Which.{Which}
use Rattle.integer_laws.specs.declared.which.Which.TheVariants.{Left, Right, Difference}
use Rattle.integer_laws.specs.Lowest.{IsLowest}
use Rattle.integer_laws.specs.Reduced.{IsReduced}

-- p times row minus q times pivot, place by place
abbrev pub combined : ℤ → ℤ → List ℤ → List ℤ → List ℤ
combined p q [] pivot = []
combined p q (x ∷ row) [] = []
combined p q (x ∷ row) (y ∷ pivot) = (p *ℤ x -ℤ q *ℤ y) ∷ combined p q row pivot

-- whether z is in range
abbrev pub is_in_range : ℤ → Bool
is_in_range z = nat_lt (unsigned_abs z) (2 ^ 127)

-- the first of `p * x`, `q * y` and their difference that is out of range
abbrev pub past_of : ℤ → ℤ → ℤ → ℤ → Option Which
past_of p x q y =
    cond (is_in_range (p *ℤ x))
    (cond (is_in_range (q *ℤ y)) (cond (is_in_range (p *ℤ x -ℤ q *ℤ y)) None (Some Difference))
    (Some Right)) (Some Left)

-- the same of the entries at place j
abbrev pub past_at : ℤ → ℤ → List ℤ → List ℤ → ℕ → Option Which
past_at p q row pivot j =
    past_of p (slice_index_or row j (pos 0)) q (slice_index_or pivot j (pos 0))

-- `new` is p times old minus q times pivot, made primitive. p and q are the entries of pivot and
-- old at place c, divided by their greatest common divisor, so place c becomes 0. No number on the
-- way is out of range.
pub record IsCombined (old pivot : List ℤ) (c : ℕ) (new : List ℤ) : Type 0 where
  pub p : ℤ
  pub q : ℤ
  pub lowest : IsLowest (slice_index_or old c (pos 0)) (slice_index_or pivot c (pos 0)) q p
  pub in_range : (k : ℕ) → k < length old → past_at p q old pivot k ≡ None
  pub reduced : IsReduced (combined p q old pivot) new

-- j is the least place with a number out of range, and `which` is the first there
pub record IsPastEntry (old pivot : List ℤ) (c j : ℕ) (which : Which) : Type 0 where
  pub p : ℤ
  pub q : ℤ
  pub lowest : IsLowest (slice_index_or old c (pos 0)) (slice_index_or pivot c (pos 0)) q p
  pub within : j < length old
  pub past : past_at p q old pivot j ≡ Some which
  pub before : (k : ℕ) → k < j → past_at p q old pivot k ≡ None
