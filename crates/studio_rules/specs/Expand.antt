-- `expand FILE PLAN`: the canonical text of the ordinary problem into which the problem and its
-- plan are expanded.
use Rattle.std.specs.Prelude.{◌≡◌, ℕ, List}
use Rattle.report_rules.specs.problem_rules.Problem.{Problem}
use Rattle.report_rules.specs.text_rules.Canonical.{canonical_lines}
use Rattle.plan_rules.specs.Expanded.{expanded}
use Rattle.plan_rules.specs.Plan.{Plan}
use Rattle.studio_rules.specs.declared.status.Status.{Status}
use Rattle.studio_rules.specs.declared.status.Status.TheVariants.{Done}

abbrev pub ExpandWork : Problem → Plan → Status → List (List ℕ) → Type 0
ExpandWork p plan status lines = (status ≡ Done) × (lines ≡ canonical_lines (expanded p plan))
