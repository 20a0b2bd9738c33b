-- What a branch tree proves of its claim, from the node at which nothing is decided. Leaves may be
-- open.
use Rattle.std.specs.Prelude.{◌≡◌, ℕ, true, Option, Some, None}
use Rattle.rank_rules.specs.problem_rules.Problem.{Problem}
use Rattle.rank_rules.specs.tree_rules.Claim.{Claim, CostOver, ClaimPasses}
use Rattle.rank_rules.specs.tree_rules.Accepted.{Tree, first_node, IsAccepted, IsPartial}
use Rattle.rank_rules.specs.tree_rules.Accepted.{NodeIsFault}
use Rattle.rank_rules.specs.tree_rules.Lower.{Low, lower_bound}
use Rattle.report_rules.specs.declared.lower_bound.LowerBound.{LowerBound}
use Rattle.report_rules.specs.declared.verdict.Verdict.{Verdict}
use Rattle.report_rules.specs.declared.verdict.Verdict.TheVariants.{Proved, Unfinished, Fails}

-- a lower bound as a cost
abbrev pub cost_of : Option LowerBound → Option CostOver
cost_of None = None
cost_of (Some b) = Some (record { cost = b.cost; d = b.d })

-- The cost that no structure with flows undercuts, if it is known. There is none either if no leaf
-- is open and nothing is claimed: no structure has flows then.
abbrev pub known_cost : Low → Option CostOver
known_cost None = None
known_cost (Some cost) = cost

-- Either the tree is accepted for the claim. Or it is not, but proves the claim except for its open
-- leaves; the verdict has its lower bound then. Or it is not, the claim passes, and `node` is the
-- first node that fails, for the cause `why`.
abbrev pub IsVerdict : Problem → Claim → Tree → Verdict → Type 0
IsVerdict p claim tree Proved = IsAccepted p first_node claim tree
IsVerdict p claim tree (Unfinished low) =
    (IsAccepted p first_node claim tree → ⊥) × IsPartial p first_node claim tree
    × (cost_of low ≡ known_cost (lower_bound p first_node claim tree))
IsVerdict p claim tree (Fails node why) =
    (IsAccepted p first_node claim tree → ⊥)
    × (ClaimPasses true p claim × NodeIsFault true p first_node claim tree node why)
