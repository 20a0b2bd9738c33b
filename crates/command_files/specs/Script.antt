-- What is said of a script that the problem does not take, or whose text has a fault.
use Rattle.std.specs.Prelude.{ℕ, List}
use Rattle.pns_text.specs.problem_rules.Problem.{Problem}
use Rattle.pns_text.specs.edit_rules.declared.EditKind.{EditKind}
use Rattle.studio_words.specs.studio_rules.Script.{HasEditFault}
use Rattle.pns_text.specs.text_lines.declared.fault.TextFault.{TextFault}
use Rattle.pns_text.specs.text_lines.declared.fault.TextFault.TheVariants.{Memory, At}

-- no memory, or just the fault of the text
abbrev pub TellsEdits : Problem → List ℕ → TextFault EditKind → Type 0
TellsEdits p file Memory = Unit {0}
TellsEdits p file (At line kind) = HasEditFault p file line kind
