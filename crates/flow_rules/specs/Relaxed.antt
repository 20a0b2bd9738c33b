-- The relaxed flow program of a node, its bounds and its refutations. Its units are those that are
-- not left out, its rows are their materials. A unit that is taken in keeps its bounds and its
-- fixed cost. A free unit may have any size up to its upper bound, and pays for its size instead of
-- its fixed cost.
use Rattle.std.specs.Prelude.{◌≡◌, ℕ, ◌<◌, ℤ, pos, ◌+ℤ◌, ◌-ℤ◌, ◌*ℤ◌, ◌≤ℤ◌, ◌<ℤ◌, Bool, true, cond}
use Rattle.std.specs.Prelude.{not, ◌||◌, List, int_div}
use Rattle.std.specs.Ordering.{int_eq}
use Rattle.std.specs.Int.{int_min}
use Rattle.integer_laws.specs.Total.{total}
use Rattle.pns_rules.specs.Structure.{mats}
use Rattle.pns_rules.specs.Nodes.{Node}
use Rattle.flow_rules.specs.Net.{Net, million, trillion, size_cost, units_of, materials_of, low_end}
use Rattle.flow_rules.specs.Net.{high_end}

-- whether the unit is taken in or free
abbrev pub stays : Node → ℕ → Bool
stays n i = not (n.outside i)

abbrev pub units : Net → Node → List ℕ
units net n = units_of net (stays n)

abbrev pub rows : Net → Node → List ℕ
rows net n = materials_of net (stays n)

-- the lower bound of a material if it is a product or a material of a unit taken in, else 0
abbrev pub lower_at : Net → Node → ℕ → ℤ
lower_at net n j = cond (net.graph.product j || mats net.graph n.inside j) (net.lower j) (pos 0)

-- the range of a row
abbrev pub row_low : Net → Node → ℕ → ℤ
row_low net n j = low_end net j (lower_at net n j)

abbrev pub row_high : Net → Node → ℕ → ℤ
row_high net n j = high_end net j (lower_at net n j)

-- the least size of a unit; the greatest is `most`
abbrev pub unit_low : Net → Node → ℕ → ℤ
unit_low net n i = cond (n.inside i) (net.least i) (pos 0)

-- the greatest whole number that is, times `most`, at most the fixed cost; 0 if `most` is 0
abbrev pub slope : Net → ℕ → ℤ
slope net i =
    cond (int_eq (net.most i) (pos 0)) (pos 0) (int_div (net.fix i *ℤ million) (net.most i))

-- what a unit of size 1 costs at the node
abbrev pub unit_cost : Net → Node → ℕ → ℤ
unit_cost net n i = size_cost net i +ℤ cond (n.inside i) (pos 0) (slope net i *ℤ million)

-- the fixed costs of the units that are taken in
abbrev pub fixed_cost : Net → Node → ℤ
fixed_cost net n = trillion *ℤ total net.fix (units_of net n.inside)

-- ---- relaxed flows

-- what the units of the program make of material j, less what they use of it
abbrev pub row_balance : Net → Node → (ℕ → ℤ) → ℕ → ℤ
row_balance net n z j = total (λ i. net.rate j i *ℤ z i) (units net n)

pub record IsRelaxed (net : Net) (n : Node) (z : ℕ → ℤ) (d : ℤ) : Type 0 where
  pub positive : pos 1 ≤ℤ d
  pub at_least : (i : ℕ) → i < net.graph.units → stays n i ≡ true → (unit_low net n i *ℤ d) ≤ℤ z i
  pub at_most : (i : ℕ) → i < net.graph.units → stays n i ≡ true → z i ≤ℤ (net.most i *ℤ d)
  pub low : (j : ℕ) → j < net.graph.materials → mats net.graph (stays n) j ≡ true
      → (row_low net n j *ℤ d) ≤ℤ row_balance net n z j
  pub high : (j : ℕ) → j < net.graph.materials → mats net.graph (stays n) j ≡ true
      → row_balance net n z j ≤ℤ (row_high net n j *ℤ d)

-- the relaxed cost over d
abbrev pub relaxed_cost : Net → Node → (ℕ → ℤ) → ℤ → ℤ
relaxed_cost net n z d =
    d *ℤ fixed_cost net n +ℤ total (λ i. unit_cost net n i *ℤ z i) (units net n)

-- ---- bounds: y j is the multiplier of row j, `scale` that of the cost

-- the cost of a unit's size less what the multipliers pay for it
abbrev pub reduced_cost : Net → Node → ℤ → (ℕ → ℤ) → ℕ → ℤ
reduced_cost net n scale y i =
    scale *ℤ unit_cost net n i -ℤ total (λ j. y j *ℤ net.rate j i) (rows net n)

-- what a row and a unit give to the bound
abbrev pub row_part : Net → Node → (ℕ → ℤ) → ℕ → ℤ
row_part net n y j = int_min (y j *ℤ row_low net n j) (y j *ℤ row_high net n j)

abbrev pub unit_part : Net → Node → ℤ → (ℕ → ℤ) → ℕ → ℤ
unit_part net n scale y i =
    int_min (reduced_cost net n scale y i *ℤ unit_low net n i)
    (reduced_cost net n scale y i *ℤ net.most i)

abbrev pub bound : Net → Node → ℤ → (ℕ → ℤ) → ℤ
bound net n scale y =
    scale *ℤ fixed_cost net n +ℤ total (row_part net n y) (rows net n) +ℤ total
    (unit_part net n scale y) (units net n)

-- multipliers that show that the node has no relaxed flows
abbrev pub Refutes : Net → Node → (ℕ → ℤ) → Type 0
Refutes net n y = pos 0 <ℤ bound net n (pos 0) y
