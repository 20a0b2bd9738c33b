-- What the answers of this crate say of a name, of one edit and of a script.
use Rattle.std.specs.Prelude.{◌≡◌, ◌<◌, ℕ, Bool, true, false, Option, Some, option_map, List}
use Rattle.std.specs.Prelude.{Result, Ok, Err}
use Rattle.edit_laws.specs.problem_rules.Problem.{Problem}
use Rattle.edit_laws.specs.edit_rules.Edit.{Edit, Script}
use Rattle.edit_laws.specs.edit_rules.Effect.{effect}
use Rattle.edit_laws.specs.edit_rules.Fault.{Fault, checks, fault_of, AreClear}
use Rattle.edit_laws.specs.edit_rules.Inverse.{inverse}
use Rattle.edit_laws.specs.edit_rules.declared.EditKind.{EditKind}
use Rattle.edit_laws.specs.edit_rules.declared.EditKind.TheVariants.{UnknownName}
use Rattle.edit_laws.specs.edit_rules.Meaning.{kind_of, HasFaultAt}
use Rattle.edit_scripts.specs.text_lines.declared.fault.LineFault.{LineFault}
use Rattle.edit_scripts.specs.text_lines.declared.fault.LineFault.TheVariants as edit
use Rattle.edit_scripts.specs.text_lines.declared.fault.TextFault.{TextFault}
use Rattle.edit_scripts.specs.text_lines.declared.fault.TextFault.TheVariants.{Memory, At}
use Rattle.pns_edits.specs.Inverse.{edits_of}
use Rattle.pns_edits.specs.declared.inverse.Inverse.{Inverse}

-- the place of a name that is known, which is below a count; or the name is not known
abbrev pub Finds : Bool → ℕ → ℕ → Result ℕ (LineFault EditKind) → Type 0
Finds known place count (Ok k) = (known ≡ true) × (k ≡ place) × (k < count)
Finds known place count (Err fault) = (known ≡ false) × (fault ≡ edit.Kind UnknownName)

-- out of memory, or exactly the first fault of an edit
abbrev pub Tells : Option Fault → LineFault EditKind → Type 0
Tells fault edit.Memory = Unit {0}
Tells fault (edit.Kind kind) = option_map kind_of fault ≡ Some kind

-- an edit of p for which no test finds a fault gives q, and these edits undo it
pub record IsEdited (p : Problem) (e : Edit) (q : Problem) (back : List Edit) : Type 0 where
  pub done : q ≡ effect p e
  pub back_is : back ≡ inverse p e
  pub clear : AreClear (checks p e)

-- this is so, or the edit is refused
abbrev pub Answers : Problem → Edit → Problem → Result Inverse (LineFault EditKind) → Type 0
Answers p e q (Ok back) = IsEdited p e q (edits_of back)
Answers p e q (Err fault) = Tells (fault_of p e) fault

-- out of memory, or exactly the first fault of a script
abbrev pub TellsFirst : Problem → Script → TextFault EditKind → Type 0
TellsFirst p s Memory = Unit {0}
TellsFirst p s (At line kind) = HasFaultAt p s line kind
