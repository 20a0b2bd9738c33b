-- A range that was not found: what stopped its search.
use Rattle.std.proofs.Common.{◌≡◌, ℕ, ℤ, List, Option, codes, refl, inl, inr}
use Rattle.stability.specs.problem_rules.Problem.{Problem}
use Rattle.stability.specs.problem_rules.Validity.{IsValid}
use Rattle.stability.specs.flow_rules.declared.place.Column.{Column}
use Rattle.stability.specs.flow_rules.declared.place.Place.{Place}
use Rattle.stability.specs.tree_rules.Claim.{Network}
use Rattle.stability.specs.tree_rules.Accepted.{Tree, first_node}
use Rattle.stability.specs.tree_rules.Tail as tails
use Rattle.stability.specs.tree_laws.Laws.{AcceptedIsOptimal}
use Rattle.stability.specs.tree_text_rules.Read.{Certificate}
use Rattle.stability.specs.node_evaluation.Children.{claim_with}
use Rattle.stability.specs.abb_search.declared.outcome.Found.{Found}
use Rattle.stability.specs.abb_search.declared.outcome.Found.TheVariants as founds
use Rattle.stability.specs.abb_search.Found.{IsFound}
use Rattle.searches.proofs.Cited.{holds}
use Rattle.stability.specs.report_rules.declared.spot.Spot.{Spot}
use Rattle.stability.specs.report_rules.Spot.{KnowsSpot, valued, IsAllowedValue}
use Rattle.stability.specs.report_rules.Range.{MayWant, IsHalfProved, IsPastCost}
use Rattle.stability.specs.stability_laws.Laws.{ValuedIsValid}
use Rattle.stability.specs.declared.outcome.RangeFault.{RangeFault}
use Rattle.stability.specs.declared.outcome.RangeFault.TheVariants.{NotBest, Spent, Past, PastCost}
use Rattle.stability.specs.declared.outcome.RangeFault.TheVariants.{Memory}
use Rattle.stability.specs.Refusal.{IsRefusal}
use Rattle.network_commands.specs.studio_rules.StableTable.{HasEnds, SearchStops, CostStops}

-- both cells are `?` if there is a cause
pub open_for : (budget : ℕ) (p : Problem) (w : Network) (spot : Spot) (from to : List ℕ)
    → SearchStops budget p spot w → from ≡ codes "?" → to ≡ codes "?"
    → HasEnds budget p w spot from to
open_for budget p w spot from to stops f t = inr (inl stops, f, t)

pub open_at_cost : (budget : ℕ) (p : Problem) (w : Network) (spot : Spot) (from to : List ℕ)
    → CostStops p spot w → from ≡ codes "?" → to ≡ codes "?" → HasEnds budget p w spot from to
open_at_cost budget p w spot from to stops f t = inr (inr stops, f, t)

module _ (optimal : AcceptedIsOptimal) (p : Problem) (spot : Spot) (w : Network) (budget : ℕ)
    (value : ℤ) (valid : IsValid (valued p spot value)) (allowed : IsAllowedValue spot value)
    (wants : MayWant p spot w value) where
  pub spent_stops : (best : Option Network) (tree : Tree) (next options : ℕ)
      → IsFound (valued p spot value) first_node budget (founds.Spent best tree next options)
      → SearchStops budget p spot w
  spent_stops best tree next options h =
      let c : Certificate =
      record { claim = claim_with best; tree = tree; tail = tails.spent next options } in
      let f : Found = founds.Spent best tree next options in (
        value,
        c,
        allowed,
        wants,
        (λ e. absurd cc),
        holds optimal (valued p spot value) valid budget f h c refl,
      )

  pub past_stops : (best : Option Network) (tree : Tree) (node : ℕ) (nonbasic : List Column)
      (place : Place)
      → IsFound (valued p spot value) first_node budget
      (founds.Past best tree node nonbasic place)
      → SearchStops budget p spot w
  past_stops best tree node nonbasic place h =
      let c : Certificate =
      record { claim = claim_with best; tree = tree; tail = tails.past node nonbasic place } in
      let f : Found = founds.Past best tree node nonbasic place in (
        value,
        c,
        allowed,
        wants,
        (λ e. absurd cc),
        holds optimal (valued p spot value) valid budget f h c refl,
      )

-- a refusal that leaves the range open
abbrev pub LeavesOpen : RangeFault → Type 0
LeavesOpen (NotBest n) = ⊥
LeavesOpen Memory = ⊥
LeavesOpen fault = Unit {0}

pub open_ends : AcceptedIsOptimal → ValuedIsValid → (p : Problem) (spot : Spot) (w : Network)
    (budget : ℕ) → IsValid p → KnowsSpot p spot → (fault : RangeFault) → LeavesOpen fault
    → IsRefusal p spot w budget fault → (from to : List ℕ) → from ≡ codes "?" → to ≡ codes "?"
    → HasEnds budget p w spot from to
open_ends optimal stays p spot w budget valid known (NotBest n) leaves h from to f t = absurd leaves
open_ends optimal stays p spot w budget valid known Memory leaves h from to f t = absurd leaves
open_ends optimal stays p spot w budget valid known (PastCost value at) leaves h from to f t =
    open_at_cost budget p w spot from to (value, at, h.0, h.1, h.2) f t
open_ends optimal stays p spot w budget valid known (Spent value best tree next options) leaves h
    from to f t =
    open_for budget p w spot from to
    (spent_stops optimal p spot w budget value (stays p valid spot known value h.0) h.0 h.1 best
    tree next options h.2) f t
open_ends optimal stays p spot w budget valid known (Past value best tree node nonbasic place)
    leaves h from to f t =
    open_for budget p w spot from to
    (past_stops optimal p spot w budget value (stays p valid spot known value h.0) h.0 h.1 best
    tree node nonbasic place h.2) f t
