use Rattle.std.proofs.Common.{◌≡◌, map, drop, string_bytes}
use Rattle.text_lines.specs.text_rules.Printed.{amount_bytes}
use Rattle.edit_scripts.specs.Printing.{appended}
use Rattle.edit_scripts.proofs.print.push_amounts.Given as goal

abbrev pub invariant-printing : goal.invariant-printing
invariant-printing l = appended (string_bytes l.text) (map amount_bytes
    (drop l.amount-index l.amounts))
    ≡ appended (string_bytes l.fn.text) (map amount_bytes l.amounts)
