-- A search that nothing stops finishes.
use Rattle.std.proofs.Common.{◌≡◌, ◌⊎◌, ℕ, List, Option, Some, None, inl, inr, refl, sym, subst}
use Rattle.structure_commands.specs.number_sets.Sets.{has}
use Rattle.structure_commands.specs.problem_rules.Problem.{Problem}
use Rattle.structure_commands.specs.problem_rules.Generated.{generated}
use Rattle.structure_commands.specs.text_rules.Outside.{Told}
use Rattle.structure_commands.specs.text_rules.State.{ShelfState, OutputsState}
use Rattle.structure_commands.specs.pns_rules.Nodes.{Node}
use Rattle.structure_commands.specs.pns_rules.declared.verdict.Verdict.{Verdict}
use Rattle.structure_commands.specs.pns_rules.declared.verdict.Verdict.TheVariants.{Meets, Breaks}
use Rattle.structure_commands.specs.plan_rules.Plan.{Plan}
use Rattle.structure_commands.specs.plan_rules.Expanded.{expanded}
use Rattle.structure_commands.specs.tree_rules.Claim.{Claim, Network, network, infeasible, unknown}
use Rattle.structure_commands.specs.tree_rules.Accepted.{Tree}
use Rattle.structure_commands.specs.tree_rules.Tail.{Tail, whole, spent, past}
use Rattle.structure_commands.specs.report_rules.declared.spot.Spot.{Spot}
use Rattle.structure_commands.specs.report_rules.declared.spot.SpotKind.{SpotKind}
use Rattle.structure_commands.specs.report_rules.Spot.{valued}
use Rattle.structure_commands.specs.studio_rules.Command.{Alternatives}
use Rattle.structure_commands.specs.studio_rules.Command.{Command, Flows, Solving, Showing, Ranking}
use Rattle.structure_commands.specs.studio_rules.Command.{Trial, Ranging}
use Rattle.structure_commands.specs.studio_rules.Command.{Planning, Parting, PartingAgainst}
use Rattle.structure_commands.specs.studio_rules.Command.{command_of}
use Rattle.structure_commands.specs.studio_rules.Reading.{AreHeld}
use Rattle.structure_commands.specs.studio_rules.TreeFile.{TreeFault, OnTree}
use Rattle.structure_commands.specs.studio_rules.HeadedFile.{AnyHead, HeadedFault, OnHeaded}
use Rattle.structure_commands.specs.studio_rules.Plan.{PlanFileFault, OnPlan}
use Rattle.structure_commands.specs.studio_rules.Flows.{FlowNamesSay, UnitsSay, FlowsSay}
use Rattle.structure_commands.specs.studio_rules.Flows.{StaysInRange}
use Rattle.structure_commands.specs.studio_rules.Axioms.{units_named, first_stranger}
use Rattle.structure_commands.specs.studio_rules.Start.{OnStart}
use Rattle.structure_commands.specs.studio_rules.Part.{HoldsFrom, PartSays, ClaimSays}
use Rattle.structure_commands.specs.studio_rules.Periods.{PeriodsWork}
use Rattle.structure_commands.specs.studio_rules.Stable.{spot_named, SpotWork, NamedWork}
use Rattle.structure_commands.specs.studio_rules.Stable.{StableWork, CanRange}
use Rattle.structure_commands.specs.studio_rules.Solve.{status_of, CanFinish}
use Rattle.structure_commands.specs.studio_rules.Ending.{Ends}
use Rattle.structure_commands.specs.studio_rules.Answers.{AnswersTo, CommandAnswers, WordsSay}
use Rattle.structure_commands.specs.studio_rules.Answers.{IsNotStopped}
use Rattle.structure_commands.specs.studio_rules.Answers.{SearchCanFinish, PlanCanFinish}
use Rattle.structure_commands.specs.studio_rules.Answers.{RangeCanFinish}
use Rattle.structure_commands.specs.studio_rules.declared.status.Status.{Status}
use Rattle.structure_commands.specs.studio_rules.declared.status.Status.TheVariants.{Done, Refused}
use Rattle.structure_commands.specs.studio_rules.declared.status.Status.TheVariants.{Past, Spent}
use Rattle.structure_commands.specs.studio_rules.declared.status.Status.TheVariants.{ReadFault}
use Rattle.structure_commands.specs.studio_rules.declared.status.Status.TheVariants.{WriteFault}
use Rattle.structure_commands.specs.studio_rules.declared.status.Status.TheVariants.{Memory}
use Rattle.structure_commands.specs.studio_rules.declared.status.Status.TheVariants.{TooLong}
use Rattle.structure_commands.specs.studio_rules.declared.status.Status.TheVariants.{BadTree}
use Rattle.structure_commands.specs.studio_rules.declared.status.Status.TheVariants.{BadPlan}
use Rattle.structure_commands.specs.studio_rules.declared.status.Status.TheVariants.{BadNode}
use Rattle.structure_commands.specs.studio_rules.declared.status.Status.TheVariants.{NotBest}
use Rattle.structure_commands.specs.studio_rules.declared.status.Status.TheVariants.{UnknownName}
use Rattle.structure_commands.specs.studio_rules.declared.status.Status.TheVariants.{BadClaim}
use Rattle.studio.proofs.Statuses.{finished, show_finished, rank_finished, search_finished}
use Rattle.studio.proofs.Statuses.{fault_not_stopped, plan_status, tree_status, headed_status}
use Rattle.studio.proofs.Statuses.{alternatives_finished, solve_finished}

-- ---- files that give nothing

plan_not_stopped : (name : List ℕ) (p : Problem) (file : List ℕ)
    → (s : Status) (lines : List (List ℕ)) → PlanFileFault name p file s lines → IsNotStopped s
plan_not_stopped name p file s lines h = elim (plan_status name p file s lines h) [
  | inl q ↦ ((λ r. cc), (λ r. cc))
  | inr q ↦ let q0 = q.0 in ((λ r. cc), (λ r. cc))
]

tree_not_stopped : (name : List ℕ) (p : Problem) (file : List ℕ)
    → (s : Status) (lines : List (List ℕ)) → TreeFault name p file s lines → IsNotStopped s
tree_not_stopped name p file s lines h = elim (tree_status name p file s lines h) [
  | inl q ↦ ((λ r. cc), (λ r. cc))
  | inr q ↦ let q0 = q.0 in ((λ r. cc), (λ r. cc))
]

headed_not_stopped : (name : List ℕ) (p : Problem) (file : List ℕ)
    → (s : Status) (lines : List (List ℕ)) → HeadedFault name p file s lines → IsNotStopped s
headed_not_stopped name p file s lines h = elim (headed_status name p file s lines h) [
  | inl q ↦ ((λ r. cc), (λ r. cc))
  | inr q ↦ let q0 = q.0 in ((λ r. cc), (λ r. cc))
]

refused : (s : Status) → s ≡ Refused → IsNotStopped s
refused s e = ((λ r. cc), (λ r. cc))

claim_refused : (s : Status) → s ≡ BadClaim → IsNotStopped s
claim_refused s e = ((λ r. cc), (λ r. cc))

-- ---- the path of one program

flows_say : (names : List (List ℕ)) (p : Problem) (us : List ℕ) (s : Status) (lines : List (List ℕ))
    → StaysInRange names p → has us ≡ units_named p names → FlowsSay p us s lines → IsNotStopped s
flows_say names p us Done lines can is h = ((λ q. cc), (λ q. cc))
flows_say names p us Past lines can is h = absurd (can us h.0 h.1 is h.2)
flows_say names p us s lines can is h = absurd h

units_say : (names : List (List ℕ)) (p : Problem) (v : Verdict) (s : Status) (lines : List (List ℕ))
    → StaysInRange names p → UnitsSay names p v s lines → IsNotStopped s
units_say names p Meets s lines can h = flows_say names p h.0 s lines can h.2 h.3
units_say names p (Breaks broken at) s lines can h = refused s h.0

flows_finished : (names : List (List ℕ)) (p : Problem) (o : Option (List ℕ))
    → (s : Status) (lines : List (List ℕ)) → StaysInRange names p
    → FlowNamesSay names p o s lines → IsNotStopped s
flows_finished names p (Some stranger) s lines can h = refused s h.0
flows_finished names p None s lines can h = units_say names p h.0 s lines can h.2

-- ---- the search from a node

from_finished : (start : Node) (budget : ℕ) (p : Problem) (claim : Claim) (tree : Tree)
    → (tail : Tail) (s : Status) → CanFinish budget p → s ≡ status_of tail
    → HoldsFrom start budget p claim tree tail → IsNotStopped s
from_finished start budget p claim tree whole s can e holds = ((λ q. cc), (λ q. cc))
from_finished start budget p claim tree (spent next options) s can e holds =
    absurd (can.enough holds.2)
from_finished start budget p claim tree (past node nonbasic place) s can e holds =
    let h = holds.1 in absurd (can.in_range h.node nonbasic place h.sound h.reduced h.past.past)

module _ (budget : ℕ) (p : Problem) (can : CanFinish budget p) where
  part_finished : (known : Option Network) (inside outside : List ℕ)
      → (s : Status) (lines : List (List ℕ))
      → PartSays budget known inside outside p s lines → IsNotStopped s
  part_finished known inside outside s lines h =
      let start : Node = record { inside = has inside; outside = has outside } in
      let c = h.found in
      from_finished start budget p c.claim c.tree c.tail s can h.status_is h.holds

  claim_finished : (inside outside : List ℕ) (claim : Claim) (tree : Tree)
      → (s : Status) (lines : List (List ℕ))
      → ClaimSays budget inside outside p claim tree s lines → IsNotStopped s
  claim_finished inside outside (network w) tree s lines (inl h) = claim_refused s h.0
  claim_finished inside outside (network w) tree s lines (inr h) =
      part_finished (Some w) inside outside s lines h.1
  claim_finished inside outside infeasible tree s lines h =
      part_finished None inside outside s lines h
  claim_finished inside outside unknown tree s lines h = part_finished None inside outside s lines h

  start_finished : (work : List ℕ → List ℕ → Problem → Status → List (List ℕ) → Type 0)
      → (word other : List ℕ) (s : Status) (lines : List (List ℕ))
      → ((inside outside : List ℕ) → work inside outside p s lines → IsNotStopped s)
      → OnStart work word other p s lines → IsNotStopped s
  start_finished work word other s lines go (inl h) = let h0 = h.0 in ((λ r. cc), (λ r. cc))
  start_finished work word other s lines go (inr h) = go h.0 h.1 h.3

  tree_finished : (held : List ℕ → Told) (name inside outside : List ℕ)
      → (s : Status) (lines : List (List ℕ))
      → OnTree (ClaimSays budget inside outside) held name p s lines → IsNotStopped s
  tree_finished held name inside outside s lines (file, is, inl fault) =
      tree_not_stopped name p file s lines fault
  tree_finished held name inside outside s lines (file, is, inr (claim, tree, gives, h)) =
      claim_finished inside outside claim tree s lines h

-- ---- over periods

periods_finished : (budget : ℕ) (p : Problem) (plan : Plan) (s : Status) (lines : List (List ℕ))
    → CanFinish budget (expanded p plan) → PeriodsWork budget p plan s lines → IsNotStopped s
periods_finished budget p plan Done lines can h = ((λ q. cc), (λ q. cc))
periods_finished budget p plan s lines can h = finished budget (expanded p plan) s lines can h

plan_finished : (budget : ℕ) (held : List ℕ → Told) (name : List ℕ) (p : Problem)
    → (s : Status) (lines : List (List ℕ)) → PlanCanFinish budget held name p
    → OnPlan (PeriodsWork budget) held name p s lines → IsNotStopped s
plan_finished budget held name p s lines can (file, is, inl fault) =
    plan_not_stopped name p file s lines fault
plan_finished budget held name p s lines can (file, is, inr (plan, gives, work)) =
    periods_finished budget p plan s lines (can file plan is gives) work

-- ---- with one value after the other

spot_finished : (spot : Spot) (budget : ℕ) (p : Problem) (w : Network)
    → (s : Status) (lines : List (List ℕ)) → CanRange budget p spot w
    → SpotWork spot budget p w s lines → IsNotStopped s
spot_finished spot budget p w Done lines can h = ((λ q. cc), (λ q. cc))
spot_finished spot budget p w NotBest lines can h = ((λ q. cc), (λ q. cc))
spot_finished spot budget p w Spent lines can (value, rest, allowed, wants, work, is) =
    finished budget (valued p spot value) Spent rest (can.searches value allowed) work
spot_finished spot budget p w Past lines can (inl (value, rest, allowed, wants, work, is)) =
    finished budget (valued p spot value) Past rest (can.searches value allowed) work
spot_finished spot budget p w Past lines can (inr (value, at, allowed, half, beyond, is)) =
    absurd (can.costs value at allowed beyond)
spot_finished spot budget p w s lines can h = absurd h

named_finished : (o : Option Spot) (budget : ℕ) (p : Problem) (claim : Claim) (tree : Tree)
    → (s : Status) (lines : List (List ℕ))
    → ((spot : Spot) (w : Network) → o ≡ Some spot → claim ≡ network w → CanRange budget p spot w)
    → NamedWork o budget p claim tree s lines → IsNotStopped s
named_finished None budget p claim tree s lines can h = let h0 = h.0 in ((λ r. cc), (λ r. cc))
named_finished (Some spot) budget p claim tree s lines can (inl h) = claim_refused s h.0
named_finished (Some spot) budget p claim tree s lines can (inr h) =
    spot_finished spot budget p h.0 s lines (can spot h.0 refl h.1.0) h.2

range_finished : (kind : SpotKind) (word : List ℕ) (budget : ℕ) (held : List ℕ → Told)
    → (name : List ℕ) (p : Problem) (s : Status) (lines : List (List ℕ))
    → RangeCanFinish kind word budget held name p
    → OnHeaded (AnyHead (StableWork kind word budget)) held name p s lines → IsNotStopped s
range_finished kind word budget held name p s lines can (file, is, inl fault) =
    headed_not_stopped name p file s lines fault
range_finished kind word budget held name p s lines can (file, is, inr (text, gives, work)) =
    named_finished (spot_named p kind word) budget p text.claim text.tree s lines
    (λ spot w named e. can file text w spot is gives e named) work

-- ---- of a call

command_finished : (held : List ℕ → Told) (command : Command) (s : Status) (lines : List (List ℕ))
    → SearchCanFinish held command → CommandAnswers held command s lines → IsNotStopped s
command_finished held (Solving name budget) s lines can (file, is, inl fault) =
    fault_not_stopped name file s lines fault
command_finished held (Solving name budget) s lines can (file, is, inr (p, given, work)) =
    solve_finished budget p s lines (can file p is given) work
command_finished held (Showing name budget) s lines can (file, is, inl fault) =
    fault_not_stopped name file s lines fault
command_finished held (Showing name budget) s lines can (file, is, inr (p, given, work)) =
    show_finished budget file p s lines (can file p is given) work
command_finished held (Ranking name count budget) s lines can (file, is, inl fault) =
    fault_not_stopped name file s lines fault
command_finished held (Ranking name count budget) s lines can (file, is, inr (p, given, work)) =
    rank_finished count budget p s lines (can file p is given) work
command_finished held (Alternatives name count budget) s lines can (file, is, inl fault) =
    fault_not_stopped name file s lines fault
command_finished held (Alternatives name count budget) s lines can
    (file, is, inr (p, given, work)) =
    alternatives_finished count budget p s lines (can file p is given) work
command_finished held (Trial number units budget) s lines can h =
    search_finished budget (generated number units) s lines can h
command_finished held (Parting name us vs budget) s lines can (file, is, inl fault) =
    fault_not_stopped name file s lines fault
command_finished held (Parting name us vs budget) s lines can (file, is, inr (p, given, work)) =
    let finish = can file p is given in
    start_finished budget p finish (PartSays budget None) us vs s lines
    (λ inside outside h. part_finished budget p finish None inside outside s lines h) work
command_finished held (PartingAgainst name us vs n tree) s lines can (file, is, inl fault) =
    fault_not_stopped name file s lines fault
command_finished held (PartingAgainst name us vs n tree) s lines can (file, is, inr (p, gives, h)) =
    let finish = can file p is gives in
    start_finished n p finish (λ inside outside. OnTree (ClaimSays n inside outside) held tree)
    us vs s lines
    (λ inside outside said. tree_finished n p finish held tree inside outside s lines said) h
command_finished held (Planning name plan budget) s lines can (file, is, inl fault) =
    fault_not_stopped name file s lines fault
command_finished held (Planning name plan budget) s lines can (file, is, inr (p, given, work)) =
    plan_finished budget held plan p s lines (can file p is given) work
command_finished held (Ranging name tree kind word n) s lines can (file, is, inl fault) =
    fault_not_stopped name file s lines fault
command_finished held (Ranging name tree kind word n) s lines can (file, is, inr (p, given, work)) =
    range_finished kind word n held tree p s lines (can file p is given) work
command_finished held (Flows name units) s lines can (file, is, inl fault) =
    fault_not_stopped name file s lines fault
command_finished held (Flows name units) s lines can (file, is, inr (p, given, work)) =
    flows_finished units p (first_stranger p units) s lines (can file p is given) work
command_finished held command s lines can h = absurd can

module _ (old new : ShelfState) (words : List (List ℕ)) (before after : OutputsState) where
  -- a search that nothing stops finishes
  pub finish_ends : (s : Status) → Ends (WordsSay old new words) before after s
      → (command : Command) → command_of words ≡ Some command → SearchCanFinish old.held command
      → IsNotStopped s
  finish_ends WriteFault e command is can = ((λ q. cc), (λ q. cc))
  finish_ends Memory e command is can = ((λ q. cc), (λ q. cc))
  finish_ends ReadFault e command is can = ((λ q. cc), (λ q. cc))
  finish_ends s e command is can =
      let told = subst (λ (f : Option Command). AnswersTo old.held f s e.1.0) is e.1.1 in
      command_finished old.held command s e.1.0 can told
