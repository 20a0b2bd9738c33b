-- Common divisors of the numbers of a problem's flow programs. They are the same at each node, so
-- each of them divides what a bound or a cost is at any node. One divides a material's rates and,
-- together with that of sizes, the ends of its row. One divides sizes, and one what a size costs.
use Rattle.std.specs.Prelude.{◌≡◌, ℕ, ◌<◌, ℤ, pos, ◌*ℤ◌, ◌≤ℤ◌, true, List, length, slice_index_or}
use Rattle.std.specs.Prelude.{int_div}
use Rattle.tree_rules.specs.number_sets.Sets.{has}
use Rattle.tree_rules.specs.pns_rules.Structure.{mats}
use Rattle.tree_rules.specs.pns_rules.Nodes.{Node}
use Rattle.tree_rules.specs.flow_rules.Net.{Net}
use Rattle.tree_rules.specs.flow_rules.Relaxed.{stays, row_low, row_high, unit_low, unit_cost}

pub record Divisors : Type 0 where
  -- one for each material
  pub rates : List ℤ
  pub sizes : ℤ
  pub costs : ℤ

abbrev pub rate_divisor : Divisors → ℕ → ℤ
rate_divisor s j = slice_index_or s.rates j (pos 0)

-- the quotient times g is x, so there is no remainder
abbrev pub Divides : ℤ → ℤ → Type 0
Divides g x = g *ℤ int_div x g ≡ x

pub record AreDivisors (net : Net) (s : Divisors) : Type 0 where
  pub count : length s.rates ≡ net.graph.materials
  pub rates_positive : (j : ℕ) → j < net.graph.materials → pos 1 ≤ℤ rate_divisor s j
  pub sizes_positive : pos 1 ≤ℤ s.sizes
  pub costs_positive : pos 1 ≤ℤ s.costs
  pub rate : (j i : ℕ) → j < net.graph.materials → i < net.graph.units
      → Divides (rate_divisor s j) (net.rate j i)
  pub size_low : (n : Node) (i : ℕ) → i < net.graph.units → Divides s.sizes (unit_low net n i)
  pub size_high : (i : ℕ) → i < net.graph.units → Divides s.sizes (net.most i)
  pub row_low : (n : Node) (j : ℕ) → j < net.graph.materials → mats net.graph (stays n) j ≡ true
      → Divides (rate_divisor s j *ℤ s.sizes) (row_low net n j)
  pub row_high : (n : Node) (j : ℕ) → j < net.graph.materials → mats net.graph (stays n) j ≡ true
      → Divides (rate_divisor s j *ℤ s.sizes) (row_high net n j)
  pub cost : (n : Node) (i : ℕ) → i < net.graph.units → Divides s.costs (unit_cost net n i)

-- each of the materials has a divisor
abbrev pub HasDivisors : Divisors → List ℕ → Type 0
HasDivisors s materials = (j : ℕ) → has materials j ≡ true → (j < length s.rates)
    × (pos 1 ≤ℤ rate_divisor s j)
