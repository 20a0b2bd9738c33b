-- A law over what `edit` and `undo` print: an edit of the edited plant by the script of `undo`
-- gives the plant back.
use Rattle.std.specs.Prelude.{◌≡◌, ◌⊎◌, ◌≤◌, ℕ, List, Some, length}
use Rattle.studio.specs.text_rules.Outside.{Told}
use Rattle.studio.specs.problem_rules.Problem.{Problem}
use Rattle.studio.specs.text_rules.Canonical.{canonical_lines}
use Rattle.studio.specs.studio_rules.Lines.{text_of}
use Rattle.studio.specs.studio_rules.declared.status.Status.{Status}
use Rattle.studio.specs.studio_rules.declared.status.Status.TheVariants.{Done, TooLong}
use Rattle.studio.specs.studio_rules.Reading.{GivesProblem, IsLong, file_limit}
use Rattle.studio.specs.studio_rules.Command.{Editing, Undoing}
use Rattle.studio.specs.studio_rules.Answers.{CommandAnswers}

-- a file with its name and its bytes
pub record File : Type 0 where
  pub name : List ℕ
  pub bytes : List ℕ

abbrev pub IsShort : File → Type 0
IsShort file = length file.bytes ≤ file_limit

-- the file is above the limit, and the lines say so
abbrev pub IsTooLong : File → Status → List (List ℕ) → Type 0
IsTooLong file status lines = (status ≡ TooLong) × IsLong file.name file_limit file.bytes lines

-- the canonical text of the plant; or that the script is too long
abbrev pub IsPlantOrLong : Problem → File → Status → List (List ℕ) → Type 0
IsPlantOrLong p script status lines =
    (IsShort script × (status ≡ Done) × (lines ≡ canonical_lines p)) ⊎ IsTooLong script status lines

-- Let `edit` and `undo` print something for one plant and one script, each with status 0. Let both
-- texts be kept as files later, which may have the same names. Then `edit` with these two files
-- prints the canonical text of the plant, or that the script is too long.
abbrev pub EditIsUndone : Type 0
EditIsUndone =
    (held later : List ℕ → Told) (file script edited back bytes steps : List ℕ) (p : Problem)
    (after undo : List (List ℕ))
    → held file ≡ Some (Some bytes) → GivesProblem bytes p → held script ≡ Some (Some steps)
    → CommandAnswers held (Editing file script) Done after
    → CommandAnswers held (Undoing file script) Done undo
    → later edited ≡ Some (Some (text_of after)) → later back ≡ Some (Some (text_of undo))
    → (status : Status) (lines : List (List ℕ))
    → CommandAnswers later (Editing edited back) status lines
    → IsPlantOrLong p (record { name = back; bytes = text_of undo }) status lines
