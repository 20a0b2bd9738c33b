-- `part FILE INSIDE OUTSIDE BUDGET`: what a search of the structures of a node finds, as the text
-- of a part. `part FILE INSIDE OUTSIDE BUDGET TREE`: the same of a search that begins with the
-- network of TREE as its best, if TREE claims one.
use Rattle.std.specs.Prelude.{◌≡◌, ◌⊎◌, ℕ, List, Option, Some, None, Ok}
use Rattle.report_rules.specs.number_sets.Sets.{has}
use Rattle.report_rules.specs.problem_rules.Problem.{Problem}
use Rattle.report_rules.specs.text_rules.Outside.{Told}
use Rattle.report_rules.specs.pns_rules.Nodes.{Node}
use Rattle.report_rules.specs.tree_rules.Claim.{Network, Claim, network, infeasible, unknown}
use Rattle.report_rules.specs.tree_rules.Claim.{claimed_cost}
use Rattle.report_rules.specs.tree_rules.Claim.{IsFeasible}
use Rattle.report_rules.specs.tree_rules.Costs.{HasFallen}
use Rattle.report_rules.specs.tree_rules.Leaf.{IsUntried}
use Rattle.report_rules.specs.tree_rules.Accepted.{Tree}
use Rattle.report_rules.specs.tree_rules.Stops.{IsSpent, IsPast}
use Rattle.report_rules.specs.tree_rules.Tail.{Tail, whole, spent, past}
use Rattle.report_rules.specs.tree_rules.Past.{IsPastAt}
use Rattle.report_rules.specs.tree_rules.Proved.{IsProved, IsStopped, IsBelowLimit}
use Rattle.report_rules.specs.tree_text_rules.Read.{Certificate}
use Rattle.report_rules.specs.tree_text_rules.Part.{Part}
use Rattle.report_rules.specs.tree_text_rules.PartRead.{PartReads}
use Rattle.report_rules.specs.tree_text_rules.PartSpelling.{part_text_lines}
use Rattle.studio_rules.specs.Lines.{text_of}
use Rattle.studio_rules.specs.Network.{ClaimRefusal}
use Rattle.studio_rules.specs.Printed.{spelled}
use Rattle.studio_rules.specs.Solve.{status_of}
use Rattle.studio_rules.specs.Start.{OnStart}
use Rattle.studio_rules.specs.TreeFile.{OnTree}
use Rattle.studio_rules.specs.declared.status.Status.{Status}

-- the part of a search that began at the node: its claim, its tree, and its tail
abbrev pub part_from : List ℕ → List ℕ → Certificate → Part
part_from inside outside c =
    record { inside = inside; outside = outside; claim = c.claim; tree = c.tree; tail = c.tail }

-- From the node the tree is lean and proves the claim but for its open leaves. The claim is the
-- cheapest network that was found, if any was.
pub record ProvesFrom (start : Node) (p : Problem) (claim : Claim) (tree : Tree) : Type 0 where
  pub stopped : IsStopped p start claim tree
  pub not_infeasible : claim ≡ infeasible → ⊥

-- What a claim and its tree are by the tail, from the node. The budget is spent only if it is below
-- twice the number of sets of units of the maximal structure. A number overflows only on the path
-- of the program of its node.
abbrev pub HoldsFrom : Node → ℕ → Problem → Claim → Tree → Tail → Type 0
HoldsFrom start budget p claim tree whole = IsProved p start claim tree
HoldsFrom start budget p claim tree (spent next options) =
    ProvesFrom start p claim tree
    × IsSpent p IsUntried (claimed_cost claim) start tree next options budget
    × IsBelowLimit p budget
HoldsFrom start budget p claim tree (past node nonbasic place) =
    ProvesFrom start p claim tree
    × IsPast p IsUntried start tree (λ n. IsPastAt p n nonbasic place) node

-- the network that was found costs no more than the one that was known, if any was
abbrev pub NoDearer : Option Network → Claim → Type 0
NoDearer None claim = Unit {0}
NoDearer (Some w) claim = HasFallen (claimed_cost (network w)) (claimed_cost claim)

-- What a search from the node finds within the budget: a claim with the lean tree that proves it,
-- or the tree as far as it came and the place at which the search stopped. Its text reads as what
-- was found. Its status is that of its tail.
pub record PartSays (budget : ℕ) (known : Option Network) (inside outside : List ℕ) (p : Problem)
    (status : Status) (lines : List (List ℕ)) : Type 0 where
  pub found : Certificate
  pub holds : HoldsFrom (record { inside = has inside; outside = has outside }) budget p found.claim
      found.tree found.tail
  pub no_dearer : NoDearer known found.claim
  pub status_is : status ≡ status_of found.tail
  pub text : lines ≡ spelled (part_text_lines p (part_from inside outside found))
  pub reads : PartReads p (text_of lines) (Ok (part_from inside outside found))

abbrev pub PartWork : ℕ → List ℕ → List ℕ → Problem → Status → List (List ℕ) → Type 0
PartWork budget = OnStart (PartSays budget None)

-- The network of a claim is judged by its lines, and is known to the search. Another claim is
-- ignored, and the tree is not judged.
abbrev pub ClaimSays : ℕ → List ℕ → List ℕ → Problem → Claim → Tree → Status → List (List ℕ)
    → Type 0
ClaimSays budget inside outside p (network w) tree status lines =
    ClaimRefusal p (network w) status lines
    ⊎ (IsFeasible p w × PartSays budget (Some w) inside outside p status lines)
ClaimSays budget inside outside p infeasible tree status lines =
    PartSays budget None inside outside p status lines
ClaimSays budget inside outside p unknown tree status lines =
    PartSays budget None inside outside p status lines

abbrev pub AgainstWork : ℕ → (List ℕ → Told) → List ℕ → List ℕ → List ℕ → Problem → Status
    → List (List ℕ) → Type 0
AgainstWork budget held tree =
    OnStart (λ inside outside. OnTree (ClaimSays budget inside outside) held tree)
