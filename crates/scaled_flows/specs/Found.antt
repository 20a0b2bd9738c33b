-- What is found on the way to the divisors of a problem's numbers.
use Rattle.std.specs.Prelude.{◌≡◌, ℕ, ◌<◌, ℤ, pos, ◌≤ℤ◌, List, length, slice_index_or, int_div}
use Rattle.std.specs.Prelude.{unsigned_abs}
use Rattle.std.specs.Int.{◌∣◌}
use Rattle.tree_rules.specs.pns_rules.Nodes.{Node}
use Rattle.tree_rules.specs.flow_rules.Net.{Net}
use Rattle.tree_rules.specs.flow_rules.Relaxed.{row_low, row_high, unit_low, unit_cost}

-- each of the first k materials has a divisor, of its rates and of the ends of its row
pub record AreRateDivisors (net : Net) (taken : Node) (rates : List ℤ) (k : ℕ) : Type 0 where
  pub count : length rates ≡ k
  pub positive : (j : ℕ) → j < k → pos 1 ≤ℤ slice_index_or rates j (pos 0)
  pub divides : (j i : ℕ) → j < k → i < net.graph.units
      → unsigned_abs (slice_index_or rates j (pos 0)) ∣ unsigned_abs (net.rate j i)
  pub low : (j : ℕ) → j < k
      → unsigned_abs (slice_index_or rates j (pos 0)) ∣ unsigned_abs (row_low net taken j)
  pub high : (j : ℕ) → j < k
      → unsigned_abs (slice_index_or rates j (pos 0)) ∣ unsigned_abs (row_high net taken j)

-- common divisors of the sizes and of the costs of the first k units
pub record AreUnitDivisors (net : Net) (taken free : Node) (sizes costs : ℤ) (k : ℕ) : Type 0 where
  pub low : (i : ℕ) → i < k → unsigned_abs sizes ∣ unsigned_abs (unit_low net taken i)
  pub high : (i : ℕ) → i < k → unsigned_abs sizes ∣ unsigned_abs (net.most i)
  pub taken_cost : (i : ℕ) → i < k → unsigned_abs costs ∣ unsigned_abs (unit_cost net taken i)
  pub free_cost : (i : ℕ) → i < k → unsigned_abs costs ∣ unsigned_abs (unit_cost net free i)

-- a divisor of the ends of a row, these divided by that of the material's rates
abbrev pub DividesRow : Net → Node → List ℤ → ℤ → ℕ → Type 0
DividesRow net taken rates g j =
    (unsigned_abs g ∣ unsigned_abs (int_div (row_low net taken j) (slice_index_or rates j (pos 0))))
    × (unsigned_abs g ∣ unsigned_abs
    (int_div (row_high net taken j) (slice_index_or rates j (pos 0))))
