-- Lines of a head whose numbers a problem knows, as those of a tree: each unit, material and
-- exclusion is below the problem's count. The size of a cap, and the amount of a use and what it is
-- worth, are in range and not below 0.
use Rattle.std.specs.Prelude.{ℤ, pos, ◌≤ℤ◌, List}
use Rattle.flow_rules.specs.integer_laws.Range.{InRange}
use Rattle.flow_rules.specs.problem_rules.Each.{Each}
use Rattle.flow_rules.specs.problem_rules.Problem.{Problem}
use Rattle.tree_rules.specs.Known.{IsUnit, IsMaterial, KnowsStep, KnowsCharge}
use Rattle.tree_rules.specs.Charged.{handed}
use Rattle.tree_rules.specs.Head.{HeadLine, step, cap, out, trim, uses}

abbrev pub KnowsLine : Problem → HeadLine → Type 0
KnowsLine p (step s) = KnowsStep p s
KnowsLine p (cap u v d ys covers) =
    IsUnit p u × (InRange v × (pos 0 ≤ℤ v)) × KnowsCharge p (handed d ys covers)
KnowsLine p (out u d ys covers) = IsUnit p u × KnowsCharge p (handed d ys covers)
KnowsLine p (trim u) = IsUnit p u
KnowsLine p (uses q d ys covers) =
    IsMaterial p q.of × (InRange q.amount × (pos 0 ≤ℤ q.amount))
    × (InRange q.worth × (pos 0 ≤ℤ q.worth)) × KnowsCharge p (handed d ys covers)

abbrev pub KnowsHead : Problem → List HeadLine → Type 0
KnowsHead p head = Each (KnowsLine p) head
