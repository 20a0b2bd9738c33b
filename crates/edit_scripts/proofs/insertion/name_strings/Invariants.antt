use Rattle.std.proofs.Common.{◌≡◌, map, take, string_bytes}
use Rattle.text_lines.specs.View.{texts}
use Rattle.edit_scripts.proofs.insertion.name_strings.Given as goal

abbrev pub invariant-naming : goal.invariant-naming
invariant-naming l = map string_bytes l.strings.items ≡ texts (take l.name-index l.names)
