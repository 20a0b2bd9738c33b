use Rattle.std.proofs.Common.{◌≡◌, map, drop, string_bytes}
use Rattle.edit_scripts.specs.Printing.{appended}
use Rattle.edit_scripts.proofs.print.push_names.Given as goal

abbrev pub invariant-printing : goal.invariant-printing
invariant-printing l = appended (string_bytes l.text) (map string_bytes
    (drop l.name-index l.names)) ≡ appended (string_bytes l.fn.text) (map string_bytes l.names)
