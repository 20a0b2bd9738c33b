-- A search whose answer is summed up: how large the problem is, the network, its cost and the size
-- of the tree that proves it.
use Rattle.std.specs.Prelude.{◌≡◌, ◌⊎◌, ◌++◌, ℕ, false, List, [], ◌∷◌, length, codes, decimal}
use Rattle.std.specs.Fmt.{signed_decimal}
use Rattle.report_rules.specs.number_sets.Sets.{has, IsSet}
use Rattle.report_rules.specs.problem_rules.Problem.{Problem, unit_names}
use Rattle.report_rules.specs.pns_rules.Shape.{shape_of}
use Rattle.report_rules.specs.pns_rules.Structure.{IsUnion}
use Rattle.report_rules.specs.tree_rules.Claim.{Network, network, infeasible}
use Rattle.report_rules.specs.tree_rules.Accepted.{Tree}
use Rattle.report_rules.specs.tree_rules.Tail.{whole}
use Rattle.studio_rules.specs.Lines.{spaced_names, names_in}
use Rattle.studio_rules.specs.Solve.{Solves, AreTextOf, PlainWork}
use Rattle.studio_rules.specs.declared.status.Status.{Status}
use Rattle.studio_rules.specs.declared.status.Status.TheVariants.{Done}

-- How many units the problem and its maximal structure have, the network with its cost and the
-- number that the cost is over, and how many nodes the tree has.
abbrev pub summary_lines : Problem → ℕ → Network → ℕ → List (List ℕ)
summary_lines p most w nodes =
    (codes "units " ++ decimal (length p.units))
    ∷ (codes "maximal " ++ decimal most)
    ∷ (codes "network" ++ spaced_names (names_in (has w.units) 0 (unit_names p.units)))
    ∷ (codes "cost " ++ signed_decimal w.cost ++ 32 ∷ signed_decimal w.d)
    ∷ (codes "nodes " ++ decimal nodes)
    ∷ []

-- the number is that of the units of the maximal structure
pub record CountsMaximal (p : Problem) (most : ℕ) : Type 0 where
  pub all : List ℕ
  pub set : IsSet (length p.units) all
  pub union : IsUnion (shape_of p) (λ u. false) (has all)
  pub count : most ≡ length all

-- the network is one of least cost, as the tree proves
abbrev pub SummaryLines : Problem → List (List ℕ) → Type 0
SummaryLines p lines =
    (most : ℕ) × (w : Network) × (tree : Tree) × CountsMaximal p most × Solves p (network w) tree
    × (lines ≡ summary_lines p most w (length tree))

abbrev pub SummarySays : Problem → Status → List (List ℕ) → Type 0
SummarySays p status lines = (status ≡ Done) × SummaryLines p lines

-- no network has flows, and the lines are those of `solve`
abbrev pub NoNetworkLines : Problem → List (List ℕ) → Type 0
NoNetworkLines p lines = (tree : Tree) × Solves p infeasible tree
    × AreTextOf p (record { claim = infeasible; tree = tree; tail = whole }) lines

-- if the search stops before its end, the lines are those of `solve`
abbrev pub SummaryWork : ℕ → Problem → Status → List (List ℕ) → Type 0
SummaryWork budget p Done lines = SummaryLines p lines ⊎ NoNetworkLines p lines
SummaryWork budget p status lines = PlainWork budget p status lines
