-- A design: which units are built, with which capacities, and how they run in each period. It
-- mentions only the plant and its periods. Capacities and sizes are numbers over d, and periods
-- count from 0.
use Rattle.std.specs.Prelude.{◌≡◌, ℕ, ◌<◌, ℤ, pos, ◌+ℤ◌, ◌-ℤ◌, ◌*ℤ◌, ◌≤ℤ◌, Bool, true, false}
use Rattle.std.specs.Prelude.{length}
use Rattle.tree_rules.specs.integer_laws.Total.{total, total_below}
use Rattle.edit_rules.specs.number_sets.Sets.{any_below}
use Rattle.edit_rules.specs.problem_rules.Problem.{Problem}
use Rattle.tree_rules.specs.pns_rules.Shape.{shape_of}
use Rattle.tree_rules.specs.pns_rules.Structure.{IsStructure, IsAllowed, mats}
use Rattle.tree_rules.specs.flow_rules.Net.{Net, net_of, million, trillion, units_of, low_end}
use Rattle.tree_rules.specs.flow_rules.Net.{high_end}
use Rattle.tree_rules.specs.flow_rules.Flows.{balance}
use Rattle.plan_rules.specs.Plan.{Plan, period_at, in_period}

-- the units that run in each period, the capacity of each unit, its size in each period, and d, the
-- denominator of all of these
pub record Design : Type 0 where
  pub runs : ℕ → ℕ → Bool
  pub capacity : ℕ → ℤ
  pub size : ℕ → ℕ → ℤ
  pub d : ℤ

-- whether unit i is built, that is, runs in some period
abbrev pub is_built : Plan → Design → ℕ → Bool
is_built plan x i = any_below (length plan.periods) (λ t. x.runs t i)

-- the plant's net at the prices and bounds of a period
abbrev pub net_in : Problem → Plan → ℕ → Net
net_in p plan t = net_of (in_period p (period_at plan t))

-- The units of a period are a solution structure of the plant and have sizes up to their
-- capacities. Other units have the size 0. Each material of the structure is within the period's
-- bounds.
pub record IsRun (p : Problem) (plan : Plan) (x : Design) (t : ℕ) : Type 0 where
  pub structure : IsStructure (shape_of p) (x.runs t)
  pub at_least : (i : ℕ) → i < length p.units → x.runs t i ≡ true → pos 0 ≤ℤ x.size t i
  pub at_most : (i : ℕ) → i < length p.units → x.runs t i ≡ true → x.size t i ≤ℤ x.capacity i
  pub no_others : (i : ℕ) → i < length p.units → x.runs t i ≡ false → x.size t i ≡ pos 0
  pub low : (j : ℕ) → j < length p.materials → mats (shape_of p) (x.runs t) j ≡ true
      → (low_end (net_in p plan t) j ((net_in p plan t).lower j) *ℤ x.d)
      ≤ℤ balance (net_in p plan t) (x.runs t) (x.size t) j
  pub high : (j : ℕ) → j < length p.materials → mats (shape_of p) (x.runs t) j ≡ true
      → balance (net_in p plan t) (x.runs t) (x.size t) j
      ≤ℤ (high_end (net_in p plan t) j ((net_in p plan t).lower j) *ℤ x.d)

-- The plant runs in each period, the units that are built are clash-free, and each of them has a
-- capacity within the bounds of its size.
pub record IsDesign (p : Problem) (plan : Plan) (x : Design) : Type 0 where
  pub positive : pos 1 ≤ℤ x.d
  pub each_runs : (t : ℕ) → t < length plan.periods → IsRun p plan x t
  pub allowed : IsAllowed (shape_of p) (is_built plan x)
  pub at_least : (i : ℕ) → i < length p.units → is_built plan x i ≡ true
      → ((net_of p).least i *ℤ x.d) ≤ℤ x.capacity i
  pub at_most : (i : ℕ) → i < length p.units → is_built plan x i ≡ true
      → x.capacity i ≤ℤ ((net_of p).most i *ℤ x.d)

-- what the built units cost: each its fixed cost, and its proportional cost for its capacity
abbrev pub building_cost : Problem → Plan → Design → ℤ
building_cost p plan x =
    total
    (λ i. ((net_of p).fix i *ℤ trillion) *ℤ x.d +ℤ ((net_of p).proportional i *ℤ million) *ℤ
    x.capacity i) (units_of (net_of p) (is_built plan x))

-- what the units of a period earn at its prices: what they make less what they use
abbrev pub earned : Problem → Plan → Design → ℕ → ℤ
earned p plan x t =
    total
    (λ i. total_below (length p.materials)
    (λ j. (net_in p plan t).price j *ℤ (net_in p plan t).rate j i) *ℤ x.size t i)
    (units_of (net_in p plan t) (x.runs t))

-- The cost is over d. It is what the design costs over d and the payout period, in 10^-18 of the
-- money unit.
abbrev pub design_cost : Problem → Plan → Design → ℤ
design_cost p plan x = building_cost p plan x -ℤ total_below (length plan.periods) (earned p plan x)
