-- The law of scripts, which is the contract of a public function of this crate.
use Rattle.std.specs.Prelude.{◌≡◌, List, Ok}
use Rattle.edit_rules.specs.problem_rules.Each.{Each}
use Rattle.edit_rules.specs.Edit.{Edit}
use Rattle.edit_rules.specs.Formed.{IsFormed, script_of}
use Rattle.edit_rules.specs.Printed.{script_text}
use Rattle.edit_rules.specs.Read.{read_script}

-- The printed text of edits without a fault of form has no fault, and stands for these edits, at
-- lines 2, 3 and so on.
abbrev pub PrintedScriptsRead : Type 0
PrintedScriptsRead = (edits : List Edit) → Each IsFormed edits
    → read_script (script_text edits) ≡ Ok (script_of edits)
