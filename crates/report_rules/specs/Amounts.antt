-- The numbers of the network of a claim for one year, in money and in the units of the problem.
-- Numbers of the problem are millionths. The size of a unit is its number in the claim over d, in
-- millionths; so the product of both is in 10^-12 over d. Each number is one product of a number of
-- the claim over d, or a sum of such products, formed before any rounding.
use Rattle.std.specs.Prelude.{ℕ, List, ℤ, pos, neg_ℤ, int_lt, if◌then◌else◌}
use Rattle.rank_rules.specs.number_sets.Sets.{has}
use Rattle.rank_rules.specs.problem_rules.Problem.{Problem, unit_at, material_at, rate_of}
use Rattle.rank_rules.specs.flow_rules.Net.{net_of, materials_of, million, trillion}
use Rattle.rank_rules.specs.flow_rules.Flows.{balance}
use Rattle.rank_rules.specs.tree_rules.Claim.{Network, size_in}
use Rattle.report_rules.specs.Number.{Number, of, times, plus, above, below, sum_of}
use Rattle.report_rules.specs.declared.amount.UnitAmount.{UnitAmount}
use Rattle.report_rules.specs.declared.amount.UnitAmount.TheVariants.{Fixed, Proportional}
use Rattle.report_rules.specs.declared.amount.UnitAmount.TheVariants.{Investment, Total, Once, Made}
use Rattle.report_rules.specs.declared.amount.UnitAmount.TheVariants.{Used}
use Rattle.report_rules.specs.declared.cost_part.CostPart.{CostPart}
use Rattle.report_rules.specs.declared.cost_part.CostPart.TheVariants.{All, Costs, Incomes}

-- the fraction of two numbers, of which the second is above 0
unfoldable pub quotient : ℤ → ℤ → Number
quotient num den = of num den

-- ---- of units

-- the number of unit i in the claim over d, times a number over another
abbrev pub sized : Network → ℕ → ℤ → ℤ → Number
sized w i num den = times (quotient (size_in w i) w.d) (quotient num den)

abbrev pub size : Network → ℕ → Number
size w i = sized w i (pos 1) million

-- its size as a share of its upper bound
abbrev pub share : Problem → Network → ℕ → Number
share p w i = sized w i (pos 1) (unit_at p i).upper

abbrev pub fixed : Problem → ℕ → Number
fixed p i = quotient (unit_at p i).fix million

abbrev pub proportional : Problem → Network → ℕ → Number
proportional p w i = sized w i (unit_at p i).proportional trillion

-- the investment, paid once; and its part for one year of the payout period
abbrev pub once : Problem → Network → ℕ → Number
once p w i =
    plus (quotient (unit_at p i).investment_fix million)
    (sized w i (unit_at p i).investment_proportional trillion)

abbrev pub investment : Problem → Network → ℕ → Number
investment p w i = times (once p w i) (quotient (pos 1) p.payout)

abbrev pub unit_total : Problem → Network → ℕ → Number
unit_total p w i = plus (plus (fixed p i) (proportional p w i)) (investment p w i)

-- The rates at which unit i makes material j and at which it uses it. A unit does only one of the
-- two. So the difference of the rates is the rate of making if it is not below 0, and else minus
-- the rate of using.
abbrev pub made_rate : ℤ → ℤ
made_rate rate = if int_lt rate (pos 0) then pos 0 else rate

abbrev pub used_rate : ℤ → ℤ
used_rate rate = if int_lt rate (pos 0) then neg_ℤ rate else pos 0

abbrev pub made_by : Problem → Network → ℕ → ℕ → Number
made_by p w j i = sized w i (made_rate (rate_of p j i)) trillion

abbrev pub used_by : Problem → Network → ℕ → ℕ → Number
used_by p w j i = sized w i (used_rate (rate_of p j i)) trillion

abbrev pub amount : UnitAmount → Problem → Network → ℕ → Number
amount Fixed p w i = fixed p i
amount Proportional p w i = proportional p w i
amount Investment p w i = investment p w i
amount Total p w i = unit_total p w i
amount Once p w i = once p w i
amount (Made j) p w i = made_by p w j i
amount (Used j) p w i = used_by p w j i

-- the sum over the units of the network
abbrev pub unit_sum : UnitAmount → Problem → Network → Number
unit_sum what p w = sum_of (amount what p w) w.units

-- ---- of materials

-- what the network makes of material j less what it uses of it, times a number over another
abbrev pub flowing : Problem → Network → ℕ → ℤ → ℤ → Number
flowing p w j num den =
    times (quotient (balance (net_of p) (has w.units) (size_in w) j) w.d) (quotient num den)

abbrev pub net : Problem → Network → ℕ → Number
net p w j = flowing p w j (pos 1) trillion

abbrev pub price : Problem → ℕ → Number
price p j = quotient (material_at p j).price million

-- the cost of material j: below 0 if what is left over is sold
abbrev pub cost : Problem → Network → ℕ → Number
cost p w j = flowing p w j (neg_ℤ (material_at p j).price) (pos 1000000000000000000)

-- a cost, the cost if it is above 0, or the cost if it is below 0
abbrev pub part_of : CostPart → Number → Number
part_of All n = n
part_of Costs n = above n
part_of Incomes n = below n

-- the sum over the materials of the network
abbrev pub cost_sum : CostPart → Problem → Network → Number
cost_sum part p w = sum_of (λ j. part_of part (cost p w j)) (materials_of (net_of p) (has w.units))
