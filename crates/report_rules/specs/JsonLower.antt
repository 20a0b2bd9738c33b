-- The lower bound of a tree that is not finished, and how far the network of the claim is above it,
-- as values of a JSON object. Both are exact. They are `null` if the tree proves its claim, or if a
-- node fails.
use Rattle.std.specs.Prelude.{◌*ℤ◌, ℕ, List, Option, Some, None, pos, if◌then◌else◌}
use Rattle.std.specs.Ordering.{int_eq}
use Rattle.rank_rules.specs.problem_rules.Problem.{Problem}
use Rattle.rank_rules.specs.tree_rules.Claim.{Claim, Network, network, infeasible, unknown}
use Rattle.report_rules.specs.Number.{Number, times}
use Rattle.report_rules.specs.Amounts.{quotient}
use Rattle.report_rules.specs.Lower.{gap}
use Rattle.report_rules.specs.declared.lower_bound.LowerBound.{LowerBound}
use Rattle.report_rules.specs.declared.verdict.Verdict.{Verdict}
use Rattle.report_rules.specs.declared.verdict.Verdict.TheVariants.{Proved, Unfinished, Fails}
use Rattle.report_rules.specs.Json.{null}
use Rattle.report_rules.specs.Value.{number_json}

-- ---- the lower bound

-- the bound over d and the payout period is in 10^-18
abbrev pub low_money : Problem → LowerBound → Number
low_money p b =
    times (quotient b.cost b.d) (quotient (pos 1) (pos 1000000000000000000 *ℤ p.payout))

-- null if no bound is known
abbrev pub bound_json : Problem → Option LowerBound → List ℕ
bound_json p None = null
bound_json p (Some b) = number_json (low_money p b)

abbrev pub low_json : Problem → Verdict → List ℕ
low_json p Proved = null
low_json p (Unfinished low) = bound_json p low
low_json p (Fails node why) = null

-- ---- the gap

-- over the size of the cost, so null if the network costs nothing
unfoldable pub gap_over : Network → LowerBound → List ℕ
gap_over w b = if int_eq w.cost (pos 0) then null else number_json (gap w b)

-- null if no network is claimed, or if no bound is known
abbrev pub gap_between : Claim → Option LowerBound → List ℕ
gap_between (network w) None = null
gap_between (network w) (Some b) = gap_over w b
gap_between infeasible low = null
gap_between unknown low = null

abbrev pub gap_json : Claim → Verdict → List ℕ
gap_json claim Proved = null
gap_json claim (Unfinished low) = gap_between claim low
gap_json claim (Fails node why) = null
