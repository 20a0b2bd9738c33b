-- What a tree that is judged for its lower bound alone proves.
use Rattle.std.proofs.Common.{◌≡◌, Option, Some, None, ap, sym}
use Rattle.report_rules.specs.problem_rules.Problem.{Problem}
use Rattle.report_rules.specs.problem_rules.Validity.{IsValid}
use Rattle.report_rules.specs.tree_rules.Claim.{Claim, CostOver}
use Rattle.report_rules.specs.tree_rules.Accepted.{Tree, first_node, IsPartial}
use Rattle.report_rules.specs.tree_rules.Lower.{Low, lower_bound}
use Rattle.tree_parts.specs.tree_laws.Laws.{LowerBoundOfAll}
use Rattle.report_rules.specs.declared.lower_bound.LowerBound.{LowerBound}
use Rattle.report_rules.specs.RankLow.{IsLowerBound, AllCostEnough}
use Rattle.report_rules.specs.Verdict.{cost_of, known_cost}

module _ (p : Problem) (claim : Claim) (tree : Tree) where
  pub is_low : IsPartial p first_node claim tree → (low : Option LowerBound)
      → cost_of low ≡ known_cost (lower_bound p first_node claim tree)
      → IsLowerBound p claim tree low
  is_low partial None e = λ h. e
  is_low partial (Some b) e = (partial, e)

-- a cost that is known is the one that there is
as_known : (m : Low) (v : CostOver) → Some v ≡ known_cost m → m ≡ Some (Some v)
as_known None v e = absurd (let no : Some v ≡ None = e in cc)
as_known (Some m) v e = ap (λ (c : Option CostOver). Some c) (sym e)

pub enough : LowerBoundOfAll → (p : Problem) → IsValid p → (claim : Claim) (tree : Tree)
    → (low : Option LowerBound) → IsLowerBound p claim tree low → AllCostEnough p low
enough law p valid claim tree None h = tt
enough law p valid claim tree (Some b) h =
    law p valid claim tree h.0 (cost_of (Some b))
    (as_known (lower_bound p first_node claim tree) (record { cost = b.cost; d = b.d }) h.1)
