-- `lint FILE`: what looks odd in the plant, two lines for each warning, or the line `clean`.
use Rattle.std.specs.Prelude.{◌≡◌, ℕ, Bool, false, List}
use Rattle.report_rules.specs.problem_rules.Problem.{Problem}
use Rattle.report_rules.specs.pns_rules.Shape.{shape_of}
use Rattle.report_rules.specs.pns_rules.Structure.{IsUnion}
use Rattle.report_rules.specs.Lint.{lint_lines}
use Rattle.studio_rules.specs.declared.status.Status.{Status}
use Rattle.studio_rules.specs.declared.status.Status.TheVariants.{Done}

-- the warnings by the union of all solution structures, which is empty if there is none
abbrev pub LintLines : List ℕ → Problem → List (List ℕ) → Type 0
LintLines file p lines = (s : ℕ → Bool) × IsUnion (shape_of p) (λ _. false) s
    × (lines ≡ lint_lines p s file)

abbrev pub LintWork : List ℕ → Problem → Status → List (List ℕ) → Type 0
LintWork file p Done lines = LintLines file p lines
LintWork file p status lines = ⊥
