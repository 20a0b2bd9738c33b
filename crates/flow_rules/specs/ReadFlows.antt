-- The flows of a basis, and the numbers that are formed on the way to them. T is the tableau.
use Rattle.std.specs.Prelude.{◌≡◌, ℕ, suc, ◌<◌, false, ℤ, pos, ◌+ℤ◌, ◌*ℤ◌, ◌≤ℤ◌, int_div}
use Rattle.std.specs.Prelude.{unsigned_abs, List, [], ◌∷◌, ◌++◌, map, cond, get_or}
use Rattle.std.specs.List.{range_with_len}
use Rattle.std.specs.Int.{◌∣◌}
use Rattle.integer_laws.specs.Lowest.{IsLowest}
use Rattle.flow_rules.specs.Steps.{AreInRange, IsFirstPast}
use Rattle.flow_rules.specs.LinearProgram.{LinearProgram}
use Rattle.flow_rules.specs.Columns.{Basis, Has, x_at, right_at}

-- m is the least common multiple of a and b
pub record IsLcm (a b m : ℕ) : Type 0 where
  pub left : a ∣ m
  pub right : b ∣ m
  pub least : (c : ℕ) → a ∣ c → b ∣ c → m ∣ c

-- For each x in the basis `right` over `own` is its value in lowest terms; for the others it is 0
-- over 1. The common denominator begins with 1. At each x in the basis it becomes the least common
-- multiple with the `own` of x.
pub record AreValues (p : LinearProgram) (b : Basis) (T : ℕ → ℕ → ℤ) (own right : ℕ → ℤ)
    (den : ℕ → ℤ) : Type 0 where
  pub basic : (i : ℕ) → i < p.units → Has b (x_at p i)
      → IsLowest (T (x_at p i) (right_at p)) (T (x_at p i) (x_at p i)) (right i) (own i)
  pub outside-right : (i : ℕ) → i < p.units → b (x_at p i) ≡ false → right i ≡ pos 0
  pub outside-own : (i : ℕ) → i < p.units → b (x_at p i) ≡ false → own i ≡ pos 1
  pub first : den 0 ≡ pos 1
  pub not_negative : (i : ℕ) → i < p.units → pos 0 ≤ℤ den (suc i)
  pub next : (i : ℕ) → i < p.units
      → IsLcm (unsigned_abs (den i)) (unsigned_abs (own i)) (unsigned_abs (den (suc i)))

-- a number that is formed for a unit: the common denominator so far; the least size times the last
-- common denominator; the size above the least times it; or the sum of the last two
pub data FlowStep : Type 0 where
  Lcm : FlowStep
  Shift : FlowStep
  Scaled : FlowStep
  Total : FlowStep

module _ (p : LinearProgram) (own right den : ℕ → ℤ) where
  abbrev pub size_above : ℕ → ℤ
  size_above i = int_div (den p.units) (own i) *ℤ right i

  -- the size of unit i, over the last common denominator
  abbrev pub size : ℕ → ℤ
  size i = p.low i *ℤ den p.units +ℤ size_above i

  abbrev pub formed : ℕ → FlowStep → ℤ
  formed i Lcm = den (suc i)
  formed i Shift = p.low i *ℤ den p.units
  formed i Scaled = size_above i
  formed i Total = size i

-- a unit, and which of its numbers
pub record Formed : Type 0 where
  pub unit : ℕ
  pub step : FlowStep

-- the first round: the units whose x is in the basis
abbrev pub lcms : Basis → List ℕ → List Formed
lcms b [] = []
lcms b (i ∷ is) = cond (b i) (record { unit = i; step = Lcm } ∷ lcms b is) (lcms b is)

-- the second round: all units
abbrev pub sizes : List ℕ → List Formed
sizes [] = []
sizes (i ∷ is) = record { unit = i; step = Shift } ∷ record { unit = i; step = Scaled }
    ∷ record { unit = i; step = Total } ∷ sizes is

-- all numbers in the order in which they are formed
abbrev pub rounds : LinearProgram → Basis → List Formed
rounds p b = lcms b (range_with_len 0 p.units) ++ sizes (range_with_len 0 p.units)

abbrev pub numbers : LinearProgram → Basis → (ℕ → ℤ) → (ℕ → ℤ) → (ℕ → ℤ) → List ℤ
numbers p b own right den = map (λ f. formed p own right den f.unit f.step) (rounds p b)

-- the flows of the basis are read, over d, with no number out of range
pub record AreRead (p : LinearProgram) (b : Basis) (T : ℕ → ℕ → ℤ) (zs : List ℤ) (d : ℤ) : Type
    0 where
  pub own : ℕ → ℤ
  pub right : ℕ → ℤ
  pub den : ℕ → ℤ
  pub values : AreValues p b T own right den
  pub in_range : AreInRange (numbers p b own right den)
  pub sizes_are : zs ≡ map (size p own right den) (range_with_len 0 p.units)
  pub d_is : d ≡ den p.units

-- the first number out of range is this one of this unit
pub record IsPastFlow (p : LinearProgram) (b : Basis) (T : ℕ → ℕ → ℤ) (unit : ℕ)
    (step : FlowStep) : Type 0 where
  pub own : ℕ → ℤ
  pub right : ℕ → ℤ
  pub den : ℕ → ℤ
  pub values : AreValues p b T own right den
  pub at : ℕ
  pub past : IsFirstPast (numbers p b own right den) at
  pub is : get_or (rounds p b) at (record { unit = unit; step = step })
      ≡ record { unit = unit; step = step }
