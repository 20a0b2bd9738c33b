-- A problem as functions of the numbers of its units and materials, with its costs over the payout
-- period. Quantities are whole millionths.
use Rattle.std.specs.Prelude.{ℕ, ◌==◌, ℤ, pos, neg_ℤ, ◌+ℤ◌, ◌-ℤ◌, ◌*ℤ◌, Bool, cond, List, [], ◌∷◌}
use Rattle.integer_laws.specs.Total.{total_below}
use Rattle.pns_rules.specs.number_sets.Sets.{listed}
use Rattle.pns_rules.specs.problem_rules.Problem.{Problem, material_at, unit_at, rate_of}
use Rattle.pns_rules.specs.Shape.{Shape, shape_of}
use Rattle.pns_rules.specs.Structure.{mats}

pub record Net : Type 0 where
  pub graph : Shape
  -- the bounds of a material's flow, and its price
  pub lower : ℕ → ℤ
  pub upper : ℕ → ℤ
  pub price : ℕ → ℤ
  -- the bounds of a unit's size, what the unit costs to be there, and what each part of its size
  -- costs
  pub least : ℕ → ℤ
  pub most : ℕ → ℤ
  pub fix : ℕ → ℤ
  pub proportional : ℕ → ℤ
  -- the rate at which unit i makes material j, less the rate at which it uses it
  pub rate : ℕ → ℕ → ℤ

-- Yearly costs and prices count once for each year of the payout period, investment costs count
-- once.
abbrev pub net_of : Problem → Net
net_of p = record {
  graph = shape_of p;
  lower = λ j. (material_at p j).lower;
  upper = λ j. (material_at p j).upper;
  price = λ j. p.payout *ℤ (material_at p j).price;
  least = λ i. (unit_at p i).lower;
  most = λ i. (unit_at p i).upper;
  fix = λ i. p.payout *ℤ (unit_at p i).fix +ℤ (unit_at p i).investment_fix;
  proportional =
      λ i. p.payout *ℤ (unit_at p i).proportional +ℤ (unit_at p i).investment_proportional;
  rate = rate_of p;
}

abbrev pub million : ℤ
million = pos 1000000

abbrev pub trillion : ℤ
trillion = pos 1000000000000

-- what a unit of size 1 costs without its fixed cost: its proportional cost, less the price of what
-- it makes, plus the price of what it uses
abbrev pub size_cost : Net → ℕ → ℤ
size_cost net i =
    net.proportional i *ℤ million -ℤ total_below net.graph.materials
    (λ j. net.price j *ℤ net.rate j i)

-- the units of a set and its materials, in rising order
abbrev pub units_of : Net → (ℕ → Bool) → List ℕ
units_of net s = listed net.graph.units s

abbrev pub materials_of : Net → (ℕ → Bool) → List ℕ
materials_of net s = listed net.graph.materials (mats net.graph s)

-- the range of what is made of a material less what is used of it: a raw material is bought within
-- its bounds, and of any other an amount within its bounds is left over. The lower bound is an
-- argument.
abbrev pub low_end : Net → ℕ → ℤ → ℤ
low_end net j lower = million *ℤ cond (net.graph.raw j) (neg_ℤ (net.upper j)) lower

abbrev pub high_end : Net → ℕ → ℤ → ℤ
high_end net j lower = million *ℤ cond (net.graph.raw j) (neg_ℤ lower) (net.upper j)

-- the number at the place of i in the first list; 0 if i is not in the list
abbrev pub beside : List ℕ → List ℤ → ℕ → ℤ
beside [] zs i = pos 0
beside (x ∷ xs) [] i = pos 0
beside (x ∷ xs) (z ∷ zs) i = cond (x == i) z (beside xs zs i)
