-- The cost of the claim of a proof: all proofs of one problem claim networks of one cost, or all
-- that no network has flows. A proof is a tree, with a head or without one.
use Rattle.std.specs.Prelude.{◌≡◌, ◌⊎◌, ℕ, ◌*ℤ◌, List, Some}
use Rattle.studio.specs.text_rules.Outside.{Told}
use Rattle.studio.specs.problem_rules.Problem.{Problem}
use Rattle.studio.specs.tree_rules.Claim.{Network, Claim, network, infeasible, CostOver}
use Rattle.studio.specs.tree_rules.Accepted.{Tree}
use Rattle.studio.specs.tree_rules.Tail.{whole}
use Rattle.studio.specs.tree_rules.Head.{HeadLine}
use Rattle.studio.specs.studio_rules.Command.{Solving}
use Rattle.studio.specs.studio_rules.Reading.{GivesProblem}
use Rattle.studio.specs.studio_rules.Solve.{AreTextOf, AreHeadedTextOf, HasProof}
use Rattle.studio.specs.studio_rules.declared.status.Status.TheVariants.{Done}
use Rattle.studio.specs.studio_rules.Answers.{CommandAnswers}

-- ---- costs

-- what a network costs
abbrev pub cost_of : Network → CostOver
cost_of w = record { cost = w.cost; d = w.d }

-- one cost, by cross products
abbrev pub IsSameCost : CostOver → CostOver → Type 0
IsSameCost v w = v.cost *ℤ w.d ≡ w.cost *ℤ v.d

-- a network of this cost is claimed
abbrev pub ClaimsCost : Claim → CostOver → Type 0
ClaimsCost (network w) much = IsSameCost (cost_of w) much
ClaimsCost claim much = ⊥

-- two networks of one cost are claimed, or both times that no network has flows
abbrev pub ClaimSame : Claim → Claim → Type 0
ClaimSame (network v) claim = ClaimsCost claim (cost_of v)
ClaimSame infeasible claim = claim ≡ infeasible
ClaimSame claim other = ⊥

abbrev pub OneCost : Type 0
OneCost =
    (p : Problem) (claim other : Claim) → HasProof p claim → HasProof p other
    → ClaimSame claim other

-- ---- of two calls of `solve`

-- the lines are the text of a whole tree with this claim, and read as it; the tree may have a head
abbrev pub PrintsClaim : Problem → Claim → List (List ℕ) → Type 0
PrintsClaim p claim lines =
    ((tree : Tree) × AreTextOf p (record { claim = claim; tree = tree; tail = whole }) lines)
    ⊎ ((head : List HeadLine) × (tree : Tree)
    × AreHeadedTextOf p (record { claim = claim; head = head; tree = tree; tail = whole }) lines)

-- they claim a network of this cost
pub record PrintsCost (p : Problem) (much : CostOver) (lines : List (List ℕ)) : Type 0 where
  pub network_of : Network
  pub prints : PrintsClaim p (network network_of) lines
  pub same_cost : IsSameCost (cost_of network_of) much

-- two texts of the problem of a file, with claims of one cost
pub record PrintSame (bytes : List ℕ) (one two : List (List ℕ)) : Type 0 where
  pub problem : Problem
  pub first : Claim
  pub second : Claim
  pub gives : GivesProblem bytes problem
  pub first_prints : PrintsClaim problem first one
  pub second_prints : PrintsClaim problem second two
  pub same : ClaimSame first second

-- What `solve` prints with status 0 within two budgets has one cost.
abbrev pub SolvesAgree : Type 0
SolvesAgree =
    (held later : List ℕ → Told) (file bytes : List ℕ) (budget other : ℕ) (one two : List (List ℕ))
    → held file ≡ Some (Some bytes) → CommandAnswers held (Solving file budget) Done one
    → later file ≡ Some (Some bytes) → CommandAnswers later (Solving file other) Done two
    → PrintSame bytes one two
