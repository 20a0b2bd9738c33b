use Rattle.std.proofs.Common.{◌≡◌, map, drop, string_bytes}
use Rattle.std.specs.Fmt.{signed_decimal}
use Rattle.tree_text.specs.Printing.{appended}
use Rattle.tree_text.proofs.field.push_numbers.Given as goal

abbrev pub invariant-printing : goal.invariant-printing
invariant-printing l = appended (string_bytes l.line) (map signed_decimal
    (drop l.number-index l.numbers))
    ≡ appended (string_bytes l.fn.line) (map signed_decimal l.numbers)
