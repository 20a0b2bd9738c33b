-- The numbers of the flow program of a node, as lists in rising order of units and rows. A simplex
-- method starts from them.
use Rattle.std.specs.Prelude.{◌≤◌, ◌^◌, ℕ, ℤ, ◌≤ℤ◌, unsigned_abs, List, [], ◌∷◌, ◌++◌, map, length}
use Rattle.std.specs.Prelude.{All}
use Rattle.std.specs.Prelude.{◌≡◌, ◌*◌}
use Rattle.pns_rules.specs.number_sets.Sets.{IsSet}
use Rattle.pns_rules.specs.Nodes.{Node}
use Rattle.flow_rules.specs.Net.{Net}
use Rattle.flow_rules.specs.Relaxed.{units, rows, row_low, row_high, unit_low, unit_cost}
use Rattle.flow_rules.specs.Relaxed.{fixed_cost}

pub record Program : Type 0 where
  pub units : List ℕ
  pub rows : List ℕ
  -- the fixed costs of the units that are taken in
  pub fixed : ℤ
  -- for each unit what a size of 1 costs, and the range of its size
  pub costs : List ℤ
  pub lows : List ℤ
  pub highs : List ℤ
  -- for each row the range of what its material leaves over
  pub floors : List ℤ
  pub ceilings : List ℤ
  -- for each unit its rate in each row
  pub rates : List ℤ

abbrev pub rates_over : Net → List ℕ → List ℕ → List ℤ
rates_over net js [] = []
rates_over net js (i ∷ is) = map (λ j. net.rate j i) js ++ rates_over net js is

abbrev pub program_of : Net → Node → Program
program_of net n = record {
  units = units net n;
  rows = rows net n;
  fixed = fixed_cost net n;
  costs = map (unit_cost net n) (units net n);
  lows = map (unit_low net n) (units net n);
  highs = map net.most (units net n);
  floors = map (row_low net n) (rows net n);
  ceilings = map (row_high net n) (rows net n);
  rates = rates_over net (rows net n) (units net n);
}

abbrev pub IsWithin : ℕ → ℤ → Type 0
IsWithin limit z = unsigned_abs z ≤ limit

-- the ranges are not empty, there are as many low as high ends, and the ends are within the limit
abbrev pub AreRanges : ℕ → List ℤ → List ℤ → Type 0
AreRanges limit [] [] = Unit {0}
AreRanges limit [] (high ∷ highs) = ⊥
AreRanges limit (low ∷ lows) [] = ⊥
AreRanges limit (low ∷ lows) (high ∷ highs) =
    IsWithin limit low × IsWithin limit high × (low ≤ℤ high) × AreRanges limit lows highs

-- what is known of the program of each node: no box of a unit and no range of a row is empty, and
-- every number is so small that its products with the others are in range
pub record IsProgram (q : Program) : Type 0 where
  pub units_set : IsSet 128 q.units
  pub rows_set : IsSet 256 q.rows
  pub one_cost : length q.costs ≡ length q.units
  pub one_box : length q.lows ≡ length q.units
  pub one_range : length q.floors ≡ length q.rows
  pub all_rates : length q.rates ≡ length q.units * length q.rows
  pub boxes : AreRanges (10 ^ 15) q.lows q.highs
  pub ranges : AreRanges (10 ^ 21) q.floors q.ceilings
  pub fixed_small : IsWithin (10 ^ 33) q.fixed
  pub costs_small : All (IsWithin (10 ^ 36)) q.costs
  pub rates_small : All (IsWithin (10 ^ 15)) q.rates
