-- A design as lists of units and of numbers, and the design that a network of the expanded problem
-- stands for. The units that build in the network give the units that are built, with their
-- capacities. The copies that run in a period give the units that run in it.
use Rattle.std.specs.Prelude.{ℕ, ℤ, ◌+◌, ◌*◌, List, [], map, length, slice_index_or}
use Rattle.std.specs.List.{range_with_len}
use Rattle.edit_rules.specs.number_sets.Sets.{has, listed}
use Rattle.edit_rules.specs.problem_rules.Problem.{Problem}
use Rattle.tree_rules.specs.flow_rules.Net.{beside}
use Rattle.plan_rules.specs.Plan.{Plan}
use Rattle.plan_rules.specs.Design.{Design}
use Rattle.tree_rules.specs.Claim.{Network, size_in}

-- units in rising order, with a number for each
pub record Run : Type 0 where
  pub units : List ℕ
  pub sizes : List ℤ

-- the units that are built with their capacities, how each period runs, the denominator d of all
-- sizes and of the cost, and the cost
pub record Written : Type 0 where
  pub built : List ℕ
  pub capacities : List ℤ
  pub runs : List Run
  pub d : ℤ
  pub cost : ℤ

abbrev pub no_run : Run
no_run = record { units = []; sizes = [] }

-- periods count from 0 here
abbrev pub run_at : Written → ℕ → Run
run_at x t = slice_index_or x.runs t no_run

-- the design that is written so
abbrev pub design_of : Written → Design
design_of x = record {
  runs = λ t. has (run_at x t).units;
  capacity = beside x.built x.capacities;
  size = λ t. beside (run_at x t).units (run_at x t).sizes;
  d = x.d;
}

-- ---- of a network

-- the number of the unit that runs for a unit in a period
abbrev pub running_number : Problem → ℕ → ℕ → ℕ
running_number p t i = length p.units + t * length p.units + i

-- the units of the network among `count` numbers from `first` on, counted from 0, and their sizes
abbrev pub run_from : Network → ℕ → ℕ → Run
run_from w first count = record {
  units = listed count (λ i. has w.units (first + i));
  sizes = map (λ i. size_in w (first + i)) (listed count (λ i. has w.units (first + i)));
}

abbrev pub run_in : Problem → Network → ℕ → Run
run_in p w t = run_from w (running_number p t 0) (length p.units)

-- the design of a network of the expanded problem
abbrev pub folded : Problem → Plan → Network → Written
folded p plan w = record {
  built = (run_from w 0 (length p.units)).units;
  capacities = (run_from w 0 (length p.units)).sizes;
  runs = map (run_in p w) (range_with_len 0 (length plan.periods));
  d = w.d;
  cost = w.cost;
}
