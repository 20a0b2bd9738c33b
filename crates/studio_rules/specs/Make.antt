-- `make NUMBER UNITS`: the canonical text of the problem that the number and the count of units
-- stand for.
use Rattle.std.specs.Prelude.{◌≡◌, ℕ, List}
use Rattle.report_rules.specs.text_rules.Canonical.{canonical_lines}
use Rattle.report_rules.specs.problem_rules.Generated.{generated}
use Rattle.studio_rules.specs.declared.status.Status.{Status}
use Rattle.studio_rules.specs.declared.status.Status.TheVariants.{Done}

abbrev pub MakeWork : ℕ → ℕ → Status → List (List ℕ) → Type 0
MakeWork number units status lines = (status ≡ Done)
    × (lines ≡ canonical_lines (generated number units))
