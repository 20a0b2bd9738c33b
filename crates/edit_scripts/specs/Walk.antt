-- A reading that continues: the edits that were read, and then the lines that remain.
use Rattle.std.specs.Prelude.{◌++◌, ℕ, List, map, Result, Ok, Err}
use Rattle.text_lines.specs.edit_rules.Edit.{Edit, Script}
use Rattle.text_lines.specs.edit_rules.ScriptFault.{Fault}
use Rattle.text_lines.specs.edit_rules.Read.{lines_read}
use Rattle.edit_scripts.specs.View.{edit_of}
use Rattle.edit_scripts.specs.declared.read.Walk.{Walk}

abbrev pub with_front : List Edit → List ℕ → Result Script Fault → Result Script Fault
with_front edits lines (Ok script) =
    Ok (record { edits = edits ++ script.edits; lines = lines ++ script.lines })
with_front edits lines (Err fault) = Err fault

abbrev pub read_on : Walk → ℕ → List (List ℕ) → Result Script Fault
read_on walk number texts =
    with_front (map edit_of walk.edits.items) walk.lines.items (lines_read number texts)
