-- What one more costs, by multipliers of least flows for the units of a network. For a material it
-- is what one more of its net amount costs, for a unit what one more of its size saves. Both are 0
-- for an amount at no limit of its own. All is for one year.
use Rattle.std.specs.Prelude.{◌≡◌, ℕ, Bool, true, false, List, [], ◌∷◌, Option, Some, None, ℤ}
use Rattle.std.specs.Prelude.{pos, neg_ℤ, ◌*ℤ◌, if◌then◌else◌}
use Rattle.std.specs.Ordering.{int_eq}
use Rattle.rank_rules.specs.problem_rules.Problem.{Problem, unit_at, rate_of}
use Rattle.rank_rules.specs.flow_rules.declared.place.Column.{Column}
use Rattle.rank_rules.specs.flow_rules.declared.place.Place.{Place}
use Rattle.rank_rules.specs.flow_rules.Net.{net_of, beside, million}
use Rattle.rank_rules.specs.flow_rules.PastPlace.{IsPastNamed}
use Rattle.rank_rules.specs.tree_rules.Claim.{Claim, Network, network, infeasible, unknown}
use Rattle.rank_rules.specs.tree_rules.LeastFlows.{decided, rows_of, IsLeastFlows}
use Rattle.report_rules.specs.Number.{Number, nothing, times, plus, sum_of}
use Rattle.report_rules.specs.Amounts.{quotient, price}

-- materials, and a multiplier over d for each
pub record Multipliers : Type 0 where
  pub rows : List ℕ
  pub d : ℤ
  pub ys : List ℤ

-- there are none if a number overflows
abbrev pub Marginals : Type 0
Marginals = Option Multipliers

abbrev pub are_known : Marginals → Bool
are_known None = false
are_known (Some m) = true

-- They are right for a set of units if they prove that some network of these units has flows of
-- least cost. There are none only if a number overflows on the path of the units' program.
abbrev pub AreMarginals : Problem → List ℕ → Marginals → Type 0
AreMarginals p us None = (nonbasic : List Column) × (place : Place)
    × IsPastNamed (net_of p) (decided p us) nonbasic place
AreMarginals p us (Some m) = (v : Network) × (v.units ≡ us) × (m.rows ≡ rows_of p us)
    × IsLeastFlows p v m.d m.ys

-- those of the network of a claim; without one none are printed
abbrev pub AreClaimMarginals : Problem → Claim → Marginals → Type 0
AreClaimMarginals p (network w) m = AreMarginals p w.units m
AreClaimMarginals p infeasible m = Unit {0}
AreClaimMarginals p unknown m = Unit {0}

-- those of the first of some networks
abbrev pub AreFirstMarginals : Problem → List Network → Marginals → Type 0
AreFirstMarginals p [] m = Unit {0}
AreFirstMarginals p (w ∷ ws) m = AreMarginals p w.units m

-- ---- of materials

-- The multiplier of material j, 0 if it has none. Costs over d and the payout period are in 10^-18
-- and net amounts in 10^-12.
abbrev pub multiplier : Multipliers → ℕ → ℤ
multiplier m j = beside m.rows m.ys j

-- what one more of the net amount costs, its price counted
abbrev pub known_marginal : Problem → Multipliers → ℕ → Number
known_marginal p m j =
    times (quotient (multiplier m j) m.d) (quotient (pos 1) (million *ℤ p.payout))

abbrev pub marginal : Problem → Marginals → ℕ → Number
marginal p None j = None
marginal p (Some m) j = known_marginal p m j

-- ---- of units

-- what one of material j is worth in the network
abbrev pub worth : Problem → Multipliers → ℕ → Number
worth p m j = plus (price p j) (known_marginal p m j)

-- what material j counts for one of the size of unit i, below 0 if the unit uses it
abbrev pub traded : Problem → Multipliers → ℕ → ℕ → Number
traded p m i j =
    if int_eq (rate_of p j i) (pos 0) then nothing
    else times (worth p m j) (quotient (rate_of p j i) million)

-- the worth of what one of the size of unit i makes, less that of what it uses
abbrev pub size_worth : Problem → Multipliers → ℕ → Number
size_worth p m i = sum_of (traded p m i) m.rows

-- its own cost, turned below 0
abbrev pub turned_cost : Problem → ℕ → Number
turned_cost p i =
    plus (quotient (neg_ℤ (unit_at p i).proportional) million)
    (times (quotient (neg_ℤ (unit_at p i).investment_proportional) million)
    (quotient (pos 1) p.payout))

-- what one more of the size of unit i saves
abbrev pub unit_marginal : Problem → Marginals → ℕ → Number
unit_marginal p None i = None
unit_marginal p (Some m) i = plus (size_worth p m i) (turned_cost p i)
