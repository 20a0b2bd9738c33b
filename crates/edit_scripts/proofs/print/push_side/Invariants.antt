use Rattle.std.proofs.Common.{◌≡◌, drop, string_bytes}
use Rattle.text_lines.specs.edit_rules.Printed.{side_tokens}
use Rattle.edit_scripts.specs.Printing.{appended, further_terms}
use Rattle.edit_scripts.proofs.print.push_side.Given as goal

abbrev pub invariant-printing : goal.invariant-printing
invariant-printing l = appended (string_bytes l.text) (further_terms
    (drop l.term-index l.rest)) ≡ appended (string_bytes l.fn.text) (side_tokens l.terms)
