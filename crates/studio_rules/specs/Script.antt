-- SCRIPT is read and judged after FILE: first its form, then its meaning on the problem.
use Rattle.std.specs.Prelude.{◌≡◌, ◌≤◌, ◌⊎◌, ◌++◌, ℕ, List, [], ◌∷◌, Ok, Err, length, map, codes}
use Rattle.std.specs.Prelude.{decimal}
use Rattle.report_rules.specs.text_rules.Outside.{Told}
use Rattle.report_rules.specs.problem_rules.Problem.{Problem}
use Rattle.report_rules.specs.edit_rules.Edit.{Edit, Script}
use Rattle.report_rules.specs.edit_rules.Formed.{script_of}
use Rattle.report_rules.specs.edit_rules.Script.{CanApply, applied, undoing}
use Rattle.report_rules.specs.edit_rules.declared.EditKind.{EditKind}
use Rattle.report_rules.specs.edit_rules.declared.EditKind.TheVariants.{FileType, BadLine, BadName}
use Rattle.report_rules.specs.edit_rules.declared.EditKind.TheVariants.{BadNumber}
use Rattle.report_rules.specs.edit_rules.declared.EditKind.TheVariants.{TooFine, TooLarge, Sign}
use Rattle.report_rules.specs.edit_rules.declared.EditKind.TheVariants.{BadTerms}
use Rattle.report_rules.specs.edit_rules.declared.EditKind.TheVariants.{UnknownName, DoubleName}
use Rattle.report_rules.specs.edit_rules.declared.EditKind.TheVariants.{BadPlace}
use Rattle.report_rules.specs.edit_rules.declared.EditKind.TheVariants.{LowAboveHigh, InUse}
use Rattle.report_rules.specs.edit_rules.declared.EditKind.TheVariants.{NoProduct}
use Rattle.report_rules.specs.edit_rules.declared.EditKind.TheVariants.{TooMany, BadMembers}
use Rattle.report_rules.specs.edit_rules.Line.{file_type}
use Rattle.report_rules.specs.edit_rules.Read.{read_script}
use Rattle.report_rules.specs.edit_rules.Printed.{edit_line}
use Rattle.report_rules.specs.edit_rules.Meaning.{HasFaultAt}
use Rattle.studio_rules.specs.Reading.{AreHeld, IsLong, OnSecond, file_limit}
use Rattle.studio_rules.specs.declared.status.Status.{Status}
use Rattle.studio_rules.specs.declared.status.Status.TheVariants.{BadEdit, TooLong}

-- the lines of the printed script of some edits
abbrev pub printed_lines : List Edit → List (List ℕ)
printed_lines edits = file_type ∷ map edit_line edits

-- the word for a kind of fault
abbrev pub edit_kind_word : EditKind → List ℕ
edit_kind_word FileType = codes "FileType"
edit_kind_word BadLine = codes "BadLine"
edit_kind_word BadName = codes "BadName"
edit_kind_word BadNumber = codes "BadNumber"
edit_kind_word TooFine = codes "TooFine"
edit_kind_word TooLarge = codes "TooLarge"
edit_kind_word Sign = codes "Sign"
edit_kind_word BadTerms = codes "BadTerms"
edit_kind_word UnknownName = codes "UnknownName"
edit_kind_word DoubleName = codes "DoubleName"
edit_kind_word BadPlace = codes "BadPlace"
edit_kind_word LowAboveHigh = codes "LowAboveHigh"
edit_kind_word InUse = codes "InUse"
edit_kind_word NoProduct = codes "NoProduct"
edit_kind_word TooMany = codes "TooMany"
edit_kind_word BadMembers = codes "BadMembers"

abbrev pub edit_fault_line : ℕ → EditKind → List ℕ
edit_fault_line line kind = codes "script line " ++ decimal line ++ 32 ∷ edit_kind_word kind

-- The text has this as its first fault of form, or has none and this as its first fault of meaning
-- on the problem.
abbrev pub HasEditFault : Problem → List ℕ → ℕ → EditKind → Type 0
HasEditFault p file line kind =
    (read_script file ≡ Err (line, kind))
    ⊎ ((s : Script) × (read_script file ≡ Ok s) × HasFaultAt p s line kind)

-- A file that gives no script for the problem: it is above the limit, or has a fault, which is
-- reported with its line and kind.
abbrev pub ScriptFault : List ℕ → Problem → List ℕ → Status → List (List ℕ) → Type 0
ScriptFault name p file TooLong lines = IsLong name file_limit file lines
ScriptFault name p file BadEdit lines =
    (length file ≤ file_limit)
    × ((line : ℕ) × (kind : EditKind) × HasEditFault p file line kind
    × (lines ≡ edit_fault_line line kind ∷ []))
ScriptFault name p file status lines = ⊥

-- a file within the limit, whose text stands for the script, which the problem takes
pub record GivesScript (p : Problem) (file : List ℕ) (s : Script) : Type 0 where
  pub within : length file ≤ file_limit
  pub reads : read_script file ≡ Ok s
  pub taken : CanApply p s.edits

-- such a script is read and applied: the problem after it, and the script that leads from it back
pub record IsEdited (p : Problem) (file : List ℕ) (edited : Problem) (back : Script) : Type 0 where
  pub script : Script
  pub gives : GivesScript p file script
  pub edited_is : edited ≡ applied p script.edits
  pub back_is : back ≡ script_of (undoing p script.edits)

-- what reading and judging the named script says if it gives none for the problem
abbrev pub ScriptFaults : (List ℕ → Told) → List ℕ → Problem → Status → List (List ℕ) → Type 0
ScriptFaults held name p status lines =
    (file : List ℕ) × AreHeld (held name) file × ScriptFault name p file status lines

-- The status and lines of the work on a problem and the edits of a script: those of a file that
-- gives no script, else those of the work.
abbrev pub ScriptSays : (Problem → List Edit → Status → List (List ℕ) → Type 0) → List ℕ → Problem
    → List ℕ → Status → List (List ℕ) → Type 0
ScriptSays work name p file status lines =
    ScriptFault name p file status lines
    ⊎ ((s : Script) × GivesScript p file s × work p s.edits status lines)

abbrev pub OnScript : (Problem → List Edit → Status → List (List ℕ) → Type 0) → (List ℕ → Told)
    → List ℕ → Problem → Status → List (List ℕ) → Type 0
OnScript work held name = OnSecond (ScriptSays work name) held name
