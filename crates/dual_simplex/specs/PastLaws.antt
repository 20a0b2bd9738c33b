-- What overflows for the node whose program a bench was given: the number at a place that the bench
-- names, or a step of a sum over what it keeps. Each law is the contract of a public function of
-- this crate.
use Rattle.std.specs.Prelude.{◌≡◌, ℕ, pos}
use Rattle.flow_program.specs.pns_rules.Nodes.{Node}
use Rattle.flow_program.specs.flow_rules.declared.place.Place.{Place}
use Rattle.flow_program.specs.flow_rules.declared.place.Place.TheVariants as places
use Rattle.flow_program.specs.flow_rules.Net.{Net, beside}
use Rattle.flow_program.specs.flow_rules.Program.{Program, program_of}
use Rattle.flow_program.specs.flow_rules.Relaxed.{units, rows}
use Rattle.flow_program.specs.flow_rules.Steps.{IsFirstPast}
use Rattle.flow_program.specs.flow_rules.BoundSteps.{bound_steps}
use Rattle.flow_program.specs.flow_rules.CostSteps.{cost_steps}
use Rattle.flow_program.specs.flow_rules.FeasibleSteps.{feasible_steps}
use Rattle.flow_program.specs.flow_rules.Places.{IsDecided}
use Rattle.dual_simplex.specs.Bench.{Bench, IsLeastOf, IsNoneOf, AreFlowsOf}
use Rattle.dual_simplex.specs.PastPlace.{IsPastOf, IsPastFlowOf}
use Rattle.flow_program.specs.flow_rules.PastPlace.{IsPastNamed}

-- the number at the place overflows at the basis that is kept
abbrev pub IsPastHere : Net → Node → Bench → Place → Type 0
IsPastHere net n b place = IsPastNamed net n b.nonbasic place

abbrev pub EntryIsPast : Type 0
EntryIsPast = (net : Net) (n : Node) (q : Program) (b : Bench) (place : Place)
    → q ≡ program_of net n → IsPastOf q b place → IsPastHere net n b place

abbrev pub FlowIsPast : Type 0
FlowIsPast = (net : Net) (n : Node) (q : Program) (b : Bench) (place : Place) → q ≡ program_of net n
    → IsLeastOf q b → IsDecided net n → IsPastFlowOf q b place → IsPastHere net n b place

-- a step of the bound of the multipliers
abbrev pub BoundIsPast : Type 0
BoundIsPast =
    (net : Net) (n : Node) (q : Program) (b : Bench) (at : ℕ) → q ≡ program_of net n → IsLeastOf q b
    → IsFirstPast (bound_steps net n b.d (beside (rows net n) b.ys)) at
    → IsPastHere net n b (places.Bound at)

-- a step of the bound of a refutation
abbrev pub RefutationIsPast : Type 0
RefutationIsPast =
    (net : Net) (n : Node) (q : Program) (b : Bench) (at : ℕ) → q ≡ program_of net n → IsNoneOf q b
    → IsFirstPast (bound_steps net n (pos 0) (beside (rows net n) b.ys)) at
    → IsPastHere net n b (places.Refute b.row at)

-- a step of the cost of the flows
abbrev pub CostIsPast : Type 0
CostIsPast =
    (net : Net) (n : Node) (q : Program) (b : Bench) (at : ℕ) → q ≡ program_of net n → IsLeastOf q b
    → AreFlowsOf q b → IsDecided net n
    → IsFirstPast (cost_steps net n.inside (beside (units net n) b.flows) b.flow_den) at
    → IsPastHere net n b (places.Cost at)

-- a step of the judging of the flows
abbrev pub BalanceIsPast : Type 0
BalanceIsPast =
    (net : Net) (n : Node) (q : Program) (b : Bench) (at : ℕ) → q ≡ program_of net n → IsLeastOf q b
    → AreFlowsOf q b → IsDecided net n
    → IsFirstPast (feasible_steps net n.inside (beside (units net n) b.flows) b.flow_den) at
    → IsPastHere net n b (places.FlowSum at)
