use Rattle.std.proofs.Common.{◌≡◌, take}
use Rattle.text_lines.specs.text_rules.Value.{exclusions_from}
use Rattle.text_lines.specs.View.{texts}
use Rattle.pns_text.proofs.value.exclusions.Given as goal

abbrev pub invariant-loop-line : goal.invariant-loop-line
invariant-loop-line l = l.exclusions.items ≡ exclusions_from (texts l.units) (take l.line-index
    l.lines)
