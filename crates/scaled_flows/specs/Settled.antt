-- Sizes and multipliers whose signs show that the sizes are optimal. Each size and each row is in
-- its range, and at an end of it if a price pulls it there.
use Rattle.std.specs.Prelude.{◌≡◌, ℕ, ◌<◌, ℤ, pos, ◌*ℤ◌, ◌≤ℤ◌, ◌<ℤ◌, true}
use Rattle.tree_rules.specs.pns_rules.Structure.{mats}
use Rattle.tree_rules.specs.pns_rules.Nodes.{Node}
use Rattle.tree_rules.specs.flow_rules.Net.{Net}
use Rattle.tree_rules.specs.flow_rules.Relaxed.{stays}
use Rattle.scaled_flows.specs.Divisors.{Divisors}
use Rattle.scaled_flows.specs.Scaled.{size_floor, size_ceiling, row_floor, row_ceiling}
use Rattle.scaled_flows.specs.Scaled.{scaled_balance, price}

-- a number over d is in a range: at the low end if its price is above 0, and at the high end if it
-- is below 0
pub record IsSettled (low high d number price : ℤ) : Type 0 where
  pub at_least : (low *ℤ d) ≤ℤ number
  pub at_most : number ≤ℤ (high *ℤ d)
  pub at_low : pos 0 <ℤ price → number ≡ low *ℤ d
  pub at_high : price <ℤ pos 0 → number ≡ high *ℤ d

-- the scaled size of a unit, at its price, and what scaled sizes leave over of a row's material, at
-- its multiplier
abbrev pub IsSizeSettled : Net → Divisors → Node → (ℕ → ℤ) → ℤ → ℤ → (ℕ → ℤ) → ℕ → Type 0
IsSizeSettled net s n z d scale y i =
    IsSettled (size_floor net s n i) (size_ceiling net s i) d (z i) (price net s n scale y i)

abbrev pub IsRowSettled : Net → Divisors → Node → (ℕ → ℤ) → ℤ → (ℕ → ℤ) → ℕ → Type 0
IsRowSettled net s n z d y j =
    IsSettled (row_floor net s n j) (row_ceiling net s n j) d (scaled_balance net s n z j) (y j)

-- scaled sizes z over d, and multipliers y over their scale
pub record AreSettled (net : Net) (s : Divisors) (n : Node) (z : ℕ → ℤ) (d scale : ℤ)
    (y : ℕ → ℤ) : Type 0 where
  pub positive : pos 1 ≤ℤ d
  pub scale_positive : pos 1 ≤ℤ scale
  pub sizes : (i : ℕ) → i < net.graph.units → stays n i ≡ true → IsSizeSettled net s n z d scale y i
  pub rows : (j : ℕ) → j < net.graph.materials → mats net.graph (stays n) j ≡ true
      → IsRowSettled net s n z d y j
