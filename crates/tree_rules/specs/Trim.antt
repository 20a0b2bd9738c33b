-- Units that earn nothing by their size, and the size beyond which nothing of what they make can be
-- of use.
use Rattle.std.specs.Prelude.{◌≡◌, ℕ, ◌<◌, ℤ, pos, ◌+ℤ◌, ◌*ℤ◌, ◌≤ℤ◌, ◌<ℤ◌, int_lt, false, List, []}
use Rattle.std.specs.Prelude.{◌∷◌, map}
use Rattle.std.specs.Int.{int_max}
use Rattle.flow_rules.specs.integer_laws.Total.{total}
use Rattle.flow_rules.specs.number_sets.Sets.{listed}
use Rattle.flow_rules.specs.pns_rules.Nodes.{Node}
use Rattle.flow_rules.specs.Net.{Net, size_cost, low_end, high_end}
use Rattle.flow_rules.specs.Relaxed.{units}
use Rattle.flow_rules.specs.ChargeFacts.{Facts}
use Rattle.flow_rules.specs.Charge.{users_most, at_most, rounded_up}

-- the rate at which unit i makes material j, 0 if it uses it
abbrev pub make_rate : Net → ℕ → ℕ → ℤ
make_rate net j i = int_max (pos 0) (net.rate j i)

-- what the units of the node can make of material j at most
abbrev pub makers_most : Net → Node → Facts → ℕ → ℤ
makers_most net n f j = total (λ i. make_rate net j i *ℤ f.most i) (units net n)

-- what has to be left over of it if it is there, and what can be used of it
abbrev pub useful_there : Net → Node → Facts → ℕ → ℤ
useful_there net n f j = low_end net j (net.lower j) +ℤ at_most (f.used j) (users_most net n f j)

-- the size of unit u that makes as much
abbrev pub enough_of : Net → Node → Facts → ℕ → ℕ → ℤ
enough_of net n f u j = rounded_up (useful_there net n f j) (net.rate j u)

-- the greatest of a number and those of a list
abbrev pub greatest : ℤ → List ℤ → ℤ
greatest x [] = x
greatest x (y ∷ ys) = int_max y (greatest x ys)

-- the materials that a unit makes, in rising order
abbrev pub outputs : Net → ℕ → List ℕ
outputs net u = listed net.graph.materials (λ j. int_lt (pos 0) (net.rate j u))

-- the size of unit u that is its least and makes enough of each of its outputs
abbrev pub trimmed_size : Net → Node → Facts → ℕ → ℤ
trimmed_size net n f u = greatest (net.least u) (map (enough_of net n f u) (outputs net u))

-- Less of the unit costs no more, and each material bears it: no output is a raw material, and of
-- an input no more than what may be left over can be made.
pub record MayTrim (net : Net) (n : Node) (f : Facts) (u : ℕ) : Type 0 where
  pub known : u < net.graph.units
  pub not_outside : n.outside u ≡ false
  pub costs : pos 0 ≤ℤ size_cost net u
  pub no_raw : (j : ℕ) → j < net.graph.materials → pos 0 <ℤ net.rate j u → net.graph.raw j ≡ false
  pub inputs
      : (j : ℕ) → j < net.graph.materials → net.rate j u <ℤ pos 0
      → makers_most net n f j ≤ℤ high_end net j (net.lower j)
  pub less : trimmed_size net n f u ≤ℤ f.most u
