use Rattle.std.proofs.Common.{◌≡◌, ◌++◌, drop}
use Rattle.text_lines.specs.text_rules.Value.{numbers_among}
use Rattle.text_lines.specs.View.{texts}
use Rattle.pns_text.proofs.value.numbers_among.Given as goal

abbrev pub invariant-loop-number : goal.invariant-loop-number
invariant-loop-number l = l.members.items ++ numbers_among l.among l.number (texts
    (drop l.number l.units)) ≡ numbers_among l.among 0 (texts l.units)
