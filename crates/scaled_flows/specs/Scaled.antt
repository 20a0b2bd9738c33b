-- The flow program of a node, divided: its scaled rates, ranges and costs, and what sizes cost and
-- leave over by them.
use Rattle.std.specs.Prelude.{ℕ, ℤ, ◌+ℤ◌, ◌-ℤ◌, ◌*ℤ◌, int_div}
use Rattle.tree_rules.specs.integer_laws.Total.{total}
use Rattle.tree_rules.specs.pns_rules.Nodes.{Node}
use Rattle.tree_rules.specs.flow_rules.Net.{Net}
use Rattle.tree_rules.specs.flow_rules.Relaxed.{units, rows, row_low, row_high, unit_low, unit_cost}
use Rattle.tree_rules.specs.flow_rules.Relaxed.{fixed_cost}
use Rattle.scaled_flows.specs.Divisors.{Divisors, rate_divisor}

abbrev pub scaled_rate : Net → Divisors → ℕ → ℕ → ℤ
scaled_rate net s j i = int_div (net.rate j i) (rate_divisor s j)

-- the range of a unit's scaled size, and that of a row
abbrev pub size_floor : Net → Divisors → Node → ℕ → ℤ
size_floor net s n i = int_div (unit_low net n i) s.sizes

abbrev pub size_ceiling : Net → Divisors → ℕ → ℤ
size_ceiling net s i = int_div (net.most i) s.sizes

abbrev pub row_floor : Net → Divisors → Node → ℕ → ℤ
row_floor net s n j = int_div (row_low net n j) (rate_divisor s j *ℤ s.sizes)

abbrev pub row_ceiling : Net → Divisors → Node → ℕ → ℤ
row_ceiling net s n j = int_div (row_high net n j) (rate_divisor s j *ℤ s.sizes)

-- what a scaled size of 1 costs
abbrev pub scaled_cost : Net → Divisors → Node → ℕ → ℤ
scaled_cost net s n i = int_div (unit_cost net n i) s.costs

-- what scaled sizes leave over of a material
abbrev pub scaled_balance : Net → Divisors → Node → (ℕ → ℤ) → ℕ → ℤ
scaled_balance net s n z j = total (λ i. scaled_rate net s j i *ℤ z i) (units net n)

-- the cost of a scaled size less what the multipliers pay for it
abbrev pub price : Net → Divisors → Node → ℤ → (ℕ → ℤ) → ℕ → ℤ
price net s n scale y i =
    scale *ℤ scaled_cost net s n i -ℤ total (λ j. y j *ℤ scaled_rate net s j i) (rows net n)

-- what scaled sizes cost
abbrev pub size_costs : Net → Divisors → Node → (ℕ → ℤ) → ℤ
size_costs net s n z = total (λ i. scaled_cost net s n i *ℤ z i) (units net n)

-- the relaxed cost of scaled sizes over d
abbrev pub value_over : Net → Divisors → Node → (ℕ → ℤ) → ℤ → ℤ
value_over net s n z d = fixed_cost net n *ℤ d +ℤ (s.costs *ℤ s.sizes) *ℤ size_costs net s n z
