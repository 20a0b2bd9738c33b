-- Flows for a set of units, and their cost. The size of unit i is z i / d.
use Rattle.std.specs.Prelude.{◌≡◌, ℕ, ◌<◌, ℤ, pos, ◌+ℤ◌, ◌*ℤ◌, ◌≤ℤ◌, Bool, true, false}
use Rattle.integer_laws.specs.Total.{total}
use Rattle.pns_rules.specs.Structure.{mats}
use Rattle.flow_rules.specs.Net.{Net, trillion, size_cost, units_of, low_end, high_end}

-- what the units of s make of material j, less what they use of it
abbrev pub balance : Net → (ℕ → Bool) → (ℕ → ℤ) → ℕ → ℤ
balance net s z j = total (λ i. net.rate j i *ℤ z i) (units_of net s)

-- each unit of s has a size within its bounds and each other unit the size 0, and each material of
-- s is within its bounds
pub record IsFlows (net : Net) (s : ℕ → Bool) (z : ℕ → ℤ) (d : ℤ) : Type 0 where
  pub positive : pos 1 ≤ℤ d
  pub at_least : (i : ℕ) → i < net.graph.units → s i ≡ true → (net.least i *ℤ d) ≤ℤ z i
  pub at_most : (i : ℕ) → i < net.graph.units → s i ≡ true → z i ≤ℤ (net.most i *ℤ d)
  pub no_others : (i : ℕ) → i < net.graph.units → s i ≡ false → z i ≡ pos 0
  pub low : (j : ℕ) → j < net.graph.materials → mats net.graph s j ≡ true
      → (low_end net j (net.lower j) *ℤ d) ≤ℤ balance net s z j
  pub high : (j : ℕ) → j < net.graph.materials → mats net.graph s j ≡ true
      → balance net s z j ≤ℤ (high_end net j (net.lower j) *ℤ d)

-- the cost over d; over d and the payout period it is in 10^-18 of the money unit
abbrev pub cost : Net → (ℕ → Bool) → (ℕ → ℤ) → ℤ → ℤ
cost net s z d =
    total (λ i. (net.fix i *ℤ trillion) *ℤ d +ℤ size_cost net i *ℤ z i) (units_of net s)
