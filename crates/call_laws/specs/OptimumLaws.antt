-- Laws over what `list`, `flows`, `solve` and `rank` print for one plant with status 0: they agree
-- on the optimum.
use Rattle.std.specs.Prelude.{◌≡◌, ◌⊎◌, ℕ, ℤ, List, ◌∷◌, ◌++◌, Option, Some, None, codes, drop}
use Rattle.std.specs.List.{Contains}
use Rattle.studio.specs.integer_laws.Range.{InRange}
use Rattle.studio.specs.text_rules.Outside.{Told}
use Rattle.studio.specs.text_rules.Canonical.{joined}
use Rattle.studio.specs.problem_rules.Each.{Each}
use Rattle.studio.specs.pns_rules.Tokens.{IsToken}
use Rattle.studio.specs.edit_rules.Formed.{IsName}
use Rattle.studio.specs.tree_rules.Claim.{CostOver}
use Rattle.studio.specs.tree_rules.Costs.{HasFallen}
use Rattle.studio.specs.tree_text_rules.Line.{word_text}
use Rattle.studio.specs.tree_text_rules.declared.Word.TheVariants as words
use Rattle.studio.specs.tree_text_rules.Spelling.{sizes_lines}
use Rattle.studio.specs.studio_rules.Printed.{spelled}
use Rattle.studio.specs.studio_rules.declared.status.Status.TheVariants.{Done}
use Rattle.studio.specs.studio_rules.Command.{Flows, Listing, Solving, Ranking}
use Rattle.studio.specs.studio_rules.Answers.{CommandAnswers}

-- ---- which costs lines give

-- the lines begin with those of a network: the names of its units, their sizes over d, and its cost
-- over d
abbrev pub TellNetwork : List (List ℕ) → List (List ℕ) → CostOver → Type 0
TellNetwork lines names c =
    (sizes : List ℤ) × (rest : List (List ℕ))
    × (lines ≡ spelled ((word_text words.Network ∷ names) ∷ sizes_lines c.d sizes c.cost) ++ rest)

-- what the network costs with which the lines begin; or no cost, if they begin with `infeasible`
abbrev pub TellCost : List (List ℕ) → Option CostOver → Type 0
TellCost lines (Some c) = (names : List (List ℕ)) × TellNetwork lines names c
TellCost lines None = (rest : List (List ℕ)) × (lines ≡ codes "infeasible" ∷ rest)

-- `flows` prints its network first, `solve` after the first line
abbrev pub FlowsTell : List (List ℕ) → Option CostOver → Type 0
FlowsTell lines = TellCost lines

abbrev pub SolveTells : List (List ℕ) → Option CostOver → Type 0
SolveTells lines = TellCost (drop 1 lines)

-- `rank` prints its first network after the third line, which says how many there are
abbrev pub RankTells : List (List ℕ) → Option CostOver → Type 0
RankTells lines (Some c) = TellCost (drop 3 lines) (Some c)
RankTells lines None = (rest : List (List ℕ)) × (drop 2 lines ≡ codes "networks 0" ∷ rest)

-- a line of `list`: a token and the names of the units of its structure
abbrev pub Lists : List (List ℕ) → List (List ℕ) → Type 0
Lists lines names = (token : List ℕ) × IsToken token × Contains lines (joined 32 (token ∷ names))

-- one cost, compared by cross products; or none on both sides
abbrev pub IsSameCost : Option CostOver → Option CostOver → Type 0
IsSameCost v w = HasFallen v w × HasFallen w v

-- both numbers are in the range of the arithmetic
abbrev pub IsInRange : Option CostOver → Type 0
IsInRange None = Unit {0}
IsInRange (Some c) = InRange c.cost × InRange c.d

-- ---- the laws

-- lines give one cost, if its numbers are in range
abbrev pub OneCostIsTold : Type 0
OneCostIsTold =
    (lines : List (List ℕ)) (v w : Option CostOver) → IsInRange v → IsInRange w
    → TellCost lines v → TellCost lines w → v ≡ w

-- No listed structure has cheaper flows. For the units of a line of `list`, `flows` prints a cost
-- that is at least that of `solve`. If `solve` says that no network has flows, `flows` says so too.
abbrev pub ListedCostEnough : Type 0
ListedCostEnough =
    (held : List ℕ → Told) (file bytes after : List ℕ) (count budget : ℕ)
    → held file ≡ Some (Some bytes)
    → (solved : List (List ℕ)) → CommandAnswers held (Solving file budget) Done solved
    → (listed : List (List ℕ)) → CommandAnswers held (Listing file after count) Done listed
    → (names : List (List ℕ)) → Each IsName names → Lists listed names
    → (flowed : List (List ℕ)) → CommandAnswers held (Flows file names) Done flowed
    → (v w : Option CostOver) × FlowsTell flowed v × SolveTells solved w × HasFallen v w

-- the network that `solve` prints has a line in the list, and `flows` of its units prints the same
-- cost
pub record IsReached (held : List ℕ → Told) (file : List ℕ)
    (solved listed : List (List ℕ)) : Type 0 where
  pub names : List (List ℕ)
  pub cost : CostOver
  pub printed : TellNetwork (drop 1 solved) names cost
  pub in_list : Lists listed names
  pub same : (flowed : List (List ℕ)) → CommandAnswers held (Flows file names) Done flowed
      → (v : CostOver) × TellNetwork flowed names v × IsSameCost (Some v) (Some cost)

-- A listed structure reaches the optimum: if `list` from the start is whole, the network that
-- `solve` prints, if any, is reached.
abbrev pub OptimumIsListed : Type 0
OptimumIsListed =
    (held : List ℕ → Told) (file bytes : List ℕ) (count budget : ℕ) → held file ≡ Some (Some bytes)
    → (solved : List (List ℕ)) → CommandAnswers held (Solving file budget) Done solved
    → (listed : List (List ℕ))
    → CommandAnswers held (Listing file (codes "start") count) Done listed
    → Contains listed (codes "end")
    → SolveTells solved None ⊎ IsReached held file solved listed

-- The first of the best networks is an optimum: `rank` prints first a network of the cost of
-- `solve`, and no network if `solve` prints none.
abbrev pub FirstIsOptimal : Type 0
FirstIsOptimal =
    (held : List ℕ → Told) (file bytes : List ℕ) (count budget most : ℕ)
    → held file ≡ Some (Some bytes)
    → (solved : List (List ℕ)) → CommandAnswers held (Solving file budget) Done solved
    → (ranked : List (List ℕ)) → CommandAnswers held (Ranking file count most) Done ranked
    → (v w : Option CostOver) × RankTells ranked v × SolveTells solved w × IsSameCost v w
