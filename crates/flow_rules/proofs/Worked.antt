-- Worked nodes and networks: the flow program of the example problem with U3 taken in and U4 and U5
-- left out; costs of networks with yearly costs and over a payout period; a refutation; and the
-- first step that is out of range.
use Rattle.std.proofs.Common.{◌≡◌, ℕ, pos, negsuc, ℤ, [], ◌∷◌, refl, length}
use Rattle.pns_rules.specs.number_sets.Sets.{has, listed}
use Rattle.pns_rules.specs.Nodes.{Node}
use Rattle.flow_rules.proofs.ExampleProblem.{example, example_with}
use Rattle.flow_rules.specs.Net.{net_of, beside}
use Rattle.flow_rules.specs.Flows.{cost, balance}
use Rattle.flow_rules.specs.Relaxed.{units, rows, slope, bound}
use Rattle.flow_rules.specs.BoundSteps.{bound_steps}

abbrev node : Node
node = record { inside = has (2 ∷ []); outside = has (3 ∷ 4 ∷ []) }

-- multipliers of the rows A, B, C and P
abbrev multipliers : ℕ → ℤ
multipliers = beside (0 ∷ 1 ∷ 2 ∷ 5 ∷ []) (pos 0 ∷ pos 0 ∷ pos 3100000 ∷ pos 3100000 ∷ [])

its_units : units (net_of example) node ≡ 0 ∷ 1 ∷ 2 ∷ []
unfolding listed
its_units = refl

its_rows : rows (net_of example) node ≡ 0 ∷ 1 ∷ 2 ∷ 5 ∷ []
unfolding listed
its_rows = refl

its_slopes : slope (net_of example) 0 ∷ slope (net_of example) 1 ∷ [] ≡ pos 100000 ∷ pos 10000 ∷ []
its_slopes = refl

its_bound : bound (net_of example) node (pos 1) multipliers ≡ pos 67000000000000000000
unfolding listed
its_bound = refl

-- one product, two steps for each row, and for each unit three steps and two for each of its rates
its_steps : length (bound_steps (net_of example) node (pos 1) multipliers) ≡ 30
unfolding listed
its_steps = refl

first_network : cost (net_of example) (has (0 ∷ 2 ∷ []))
    (beside (0 ∷ 2 ∷ []) (pos 20000000 ∷ pos 20000000 ∷ [])) (pos 1) ≡ pos 75000000000000000000
unfolding listed
first_network = refl

second_network : cost (net_of example) (has (1 ∷ 2 ∷ []))
    (beside (1 ∷ 2 ∷ []) (pos 20000000 ∷ pos 20000000 ∷ [])) (pos 1) ≡ pos 86000000000000000000
unfolding listed
second_network = refl

third_network : cost (net_of example) (has (0 ∷ 1 ∷ 2 ∷ []))
    (beside (0 ∷ 1 ∷ 2 ∷ []) (pos 20000000 ∷ pos 0 ∷ pos 20000000 ∷ [])) (pos 1)
    ≡ pos 76000000000000000000
unfolding listed
third_network = refl

-- what a network of U1 and U3 leaves over of A, C and P
left_over : balance (net_of example) (has (0 ∷ 2 ∷ []))
    (beside (0 ∷ 2 ∷ []) (pos 20000000 ∷ pos 20000000 ∷ [])) 0 ≡ negsuc 19999999999999
unfolding listed
left_over = refl

-- U1 without a yearly fixed cost, and a payout period of ten years: an investment of 100, or of
-- 1000
with_investment : cost (net_of (example_with (pos 0) (pos 100000000) (pos 10) (pos 20000000)))
    (has (0 ∷ 2 ∷ [])) (beside (0 ∷ 2 ∷ []) (pos 20000000 ∷ pos 20000000 ∷ [])) (pos 1)
    ≡ pos 750000000000000000000
unfolding listed
with_investment = refl

with_other_unit : cost (net_of (example_with (pos 0) (pos 1000000000) (pos 10) (pos 20000000)))
    (has (1 ∷ 2 ∷ [])) (beside (1 ∷ 2 ∷ []) (pos 20000000 ∷ pos 20000000 ∷ [])) (pos 1)
    ≡ pos 860000000000000000000
unfolding listed
with_other_unit = refl

-- 200 of P are wanted, and U3 has a size of at most 150
refuted : bound (net_of (example_with (pos 10000000) (pos 0) (pos 1) (pos 200000000))) node (pos 0)
    (beside (0 ∷ 1 ∷ 2 ∷ 5 ∷ []) (pos 0 ∷ pos 0 ∷ pos 0 ∷ pos 1 ∷ [])) ≡ pos 50000000000000
unfolding listed
refuted = refl
