-- A law over the canonical text of a plant, which `edit`, `migrate`, `make` and `expand` print.
use Rattle.std.specs.Prelude.{◌≤◌, length}
use Rattle.studio.specs.problem_rules.Problem.{Problem}
use Rattle.studio.specs.problem_rules.Validity.{IsValid}
use Rattle.studio.specs.text_rules.Canonical.{canonical}
use Rattle.studio.specs.studio_rules.Reading.{file_limit}

-- The canonical text of a valid problem is within the limit of problem files, so each command reads
-- it.
abbrev pub CanonicalIsShort : Type 0
CanonicalIsShort = (p : Problem) → IsValid p → length (canonical p) ≤ file_limit
