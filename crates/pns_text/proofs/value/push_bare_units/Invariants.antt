use Rattle.std.proofs.Common.{◌≡◌, ◌++◌, map, take}
use Rattle.text_lines.specs.text_rules.Line.{Placed}
use Rattle.text_lines.specs.text_rules.Value.{bare_unit, bare_lines}
use Rattle.pns_text.proofs.value.push_bare_units.Given as goal

abbrev pub invariant-loop-line : goal.invariant-loop-line
invariant-loop-line l = l.units.items ≡ l.initial.units.items ++ map (λ (line : Placed). bare_unit
    l.settings l.names.materials l.lines line.text)
    (bare_lines l.names.units (take l.line-index l.lines))
