-- `periods FILE PLAN BUDGET`: a design of least cost of the plant over its periods, or that it has
-- none. If the search stops before its end, the lines and the status are those of `solve` on the
-- expanded problem.
use Rattle.std.specs.Prelude.{◌≡◌, ◌⊎◌, ℕ, List, [], ◌∷◌, codes}
use Rattle.report_rules.specs.problem_rules.Problem.{Problem}
use Rattle.plan_rules.specs.Expanded.{expanded}
use Rattle.plan_rules.specs.Plan.{Plan}
use Rattle.report_rules.specs.tree_rules.Claim.{Network, network, infeasible}
use Rattle.report_rules.specs.tree_rules.Accepted.{Tree}
use Rattle.plan_rules.specs.Folded.{folded}
use Rattle.plan_rules.specs.Least.{IsLeastDesign, HasNoDesign}
use Rattle.studio_rules.specs.Solve.{Solves, HasProof, PlainWork}
use Rattle.studio_rules.specs.declared.status.Status.{Status}
use Rattle.studio_rules.specs.declared.status.Status.TheVariants.{Done}
use Rattle.studio_rules.specs.DesignText.{design_lines}

-- The lines of a design that no design undercuts. It is that of a network of least cost of the
-- expanded problem, as a lean tree proves, which may have a head.
pub record IsLeastText (p : Problem) (plan : Plan) (lines : List (List ℕ)) : Type 0 where
  pub network_of : Network
  pub proof : HasProof (expanded p plan) (network network_of)
  pub design : IsLeastDesign p plan (folded p plan network_of)
  pub text : lines ≡ design_lines p (folded p plan network_of)

-- the plant has no design, as a lean tree proves of the expanded problem
pub record IsNoneText (p : Problem) (plan : Plan) (lines : List (List ℕ)) : Type 0 where
  pub tree : Tree
  pub solves : Solves (expanded p plan) infeasible tree
  pub none : HasNoDesign p plan
  pub text : lines ≡ codes "infeasible" ∷ []

abbrev pub PeriodsWork : ℕ → Problem → Plan → Status → List (List ℕ) → Type 0
PeriodsWork budget p plan Done lines = IsLeastText p plan lines ⊎ IsNoneText p plan lines
PeriodsWork budget p plan status lines = PlainWork budget (expanded p plan) status lines
