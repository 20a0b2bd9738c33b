use Rattle.std.proofs.Common.{◌≡◌, drop}
use Rattle.text_lines.specs.text_rules.Value.{first_meaning}
use Rattle.pns_text.proofs.meaning.first_meaning.Given as goal

abbrev pub invariant-loop-line : goal.invariant-loop-line
invariant-loop-line l = first_meaning l.settings l.names (drop l.line-index
    l.lines) ≡ first_meaning l.settings l.names l.lines
