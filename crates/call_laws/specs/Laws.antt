-- Laws of plants without demands, each of which a public function of this crate has as its
-- contract.
use Rattle.std.specs.Prelude.{ℕ, suc, ◌^◌, ◌≤◌, List, length}
use Rattle.studio.specs.problem_rules.Problem.{Problem}
use Rattle.studio.specs.problem_rules.Validity.{IsValid}
use Rattle.studio.specs.pns_rules.Nodes.{Node}
use Rattle.studio.specs.flow_rules.declared.place.Column.{Column}
use Rattle.studio.specs.flow_rules.declared.place.Place.{Place}
use Rattle.studio.specs.flow_rules.Net.{net_of}
use Rattle.studio.specs.flow_rules.PastPlace.{IsPastNamed}
use Rattle.studio.specs.studio_rules.Solve.{CanFinish}
use Rattle.call_laws.specs.NoDemands.{HasNoDemands}

-- at no node, whatever units it takes in and leaves out, a number overflows on the path of its
-- program
abbrev pub NothingIsPast : Type 0
NothingIsPast =
    (p : Problem) → IsValid p → HasNoDemands p
    → (n : Node) (nonbasic : List Column) (place : Place)
    → IsPastNamed (net_of p) n nonbasic place → ⊥

-- so nothing stops a search whose budget is at least twice the number of sets of units
abbrev pub NothingStops : Type 0
NothingStops =
    (p : Problem) → IsValid p → HasNoDemands p
    → (budget : ℕ) → 2 ^ suc (length p.units) ≤ budget → CanFinish budget p
