-- A plan: the periods in which a plant runs, each with a price, a lower and an upper bound of every
-- material, in millionths.
use Rattle.std.specs.Prelude.{◌≡◌, ◌<◌, ◌+◌, ◌*◌, ℕ, nat_lt, Bool, false, ◌||◌, List, [], map}
use Rattle.std.specs.Prelude.{length, ℤ, pos, slice_index_or}
use Rattle.std.specs.List.{range_with_len}
use Rattle.edit_rules.specs.problem_rules.Each.{Each}
use Rattle.edit_rules.specs.problem_rules.Problem.{Material, Problem, material_at}
use Rattle.edit_rules.specs.problem_rules.WellFormed.{IsInRange, AreBounds}

-- one number for each material, in file order
pub record Period : Type 0 where
  pub prices : List ℤ
  pub lowers : List ℤ
  pub uppers : List ℤ

pub record Plan : Type 0 where
  pub periods : List Period

abbrev pub no_period : Period
no_period = record { prices = []; lowers = []; uppers = [] }

-- periods count from 0 here
abbrev pub period_at : Plan → ℕ → Period
period_at plan t = slice_index_or plan.periods t no_period

abbrev pub price_at : Period → ℕ → ℤ
price_at q j = slice_index_or q.prices j (pos 0)

abbrev pub lower_at : Period → ℕ → ℤ
lower_at q j = slice_index_or q.lowers j (pos 0)

abbrev pub upper_at : Period → ℕ → ℤ
upper_at q j = slice_index_or q.uppers j (pos 0)

-- ---- the plant in one period

-- a material at the period's price and bounds
abbrev pub material_in : Problem → Period → ℕ → Material
material_in p q j =
    record (material_at p j) { price = price_at q j; lower = lower_at q j; upper = upper_at q j }

-- the plant at the period's prices and bounds
abbrev pub in_period : Problem → Period → Problem
in_period p q =
    record p { materials = map (material_in p q) (range_with_len 0 (length p.materials)) }

-- ---- validity

-- one price, lower and upper bound for each of so many materials, and all of them as a valid
-- problem has them
pub record IsPeriod (materials : ℕ) (q : Period) : Type 0 where
  pub all_prices : length q.prices ≡ materials
  pub all_lowers : length q.lowers ≡ materials
  pub all_uppers : length q.uppers ≡ materials
  pub prices_in_range : (j : ℕ) → j < materials → IsInRange (price_at q j)
  pub bounds : (j : ℕ) → j < materials → AreBounds (lower_at q j) (upper_at q j)

-- with so many units, materials and periods the expanded problem would have more than 128 units or
-- 256 materials
abbrev pub is_too_wide : ℕ → ℕ → ℕ → Bool
is_too_wide units materials periods =
    nat_lt 128 (units * (periods + 1)) || nat_lt 256 ((materials + units) * periods + units)

pub record IsPlan (p : Problem) (plan : Plan) : Type 0 where
  pub some : 0 < length plan.periods
  pub periods_formed : Each (IsPeriod (length p.materials)) plan.periods
  pub narrow : is_too_wide (length p.units) (length p.materials) (length plan.periods) ≡ false
