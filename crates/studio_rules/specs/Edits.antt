-- `edit FILE SCRIPT` and `undo FILE SCRIPT`: the problem after the edits of the script, and the
-- script that leads from it back.
use Rattle.std.specs.Prelude.{◌≡◌, ℕ, List}
use Rattle.report_rules.specs.problem_rules.Problem.{Problem}
use Rattle.report_rules.specs.text_rules.Canonical.{canonical_lines}
use Rattle.report_rules.specs.edit_rules.Edit.{Edit}
use Rattle.report_rules.specs.edit_rules.Script.{applied, undoing}
use Rattle.studio_rules.specs.Script.{printed_lines}
use Rattle.studio_rules.specs.declared.status.Status.{Status}
use Rattle.studio_rules.specs.declared.status.Status.TheVariants.{Done}

-- the canonical text of the edited problem
abbrev pub EditWork : Problem → List Edit → Status → List (List ℕ) → Type 0
EditWork p edits status lines = (status ≡ Done) × (lines ≡ canonical_lines (applied p edits))

-- the printed script of the inverses
abbrev pub UndoWork : Problem → List Edit → Status → List (List ℕ) → Type 0
UndoWork p edits status lines = (status ≡ Done) × (lines ≡ printed_lines (undoing p edits))
