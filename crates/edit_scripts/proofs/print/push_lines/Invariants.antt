use Rattle.std.proofs.Common.{◌≡◌, ◌++◌, map, drop, string_bytes}
use Rattle.edit_scripts.specs.Printing.{edit_lines}
use Rattle.edit_scripts.specs.View.{edit_of}
use Rattle.edit_scripts.proofs.print.push_lines.Given as goal

abbrev pub invariant-printing : goal.invariant-printing
invariant-printing l = string_bytes l.text ++ edit_lines (map edit_of
    (drop l.edit-index l.edits)) ≡ string_bytes l.fn.text ++ edit_lines (map edit_of l.edits)
