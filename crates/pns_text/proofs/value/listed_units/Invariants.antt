use Rattle.std.proofs.Common.{◌≡◌, map, take}
use Rattle.text_lines.specs.text_rules.Line.{Placed, lines_at}
use Rattle.text_lines.specs.text_rules.declared.Section.TheVariants.{OperatingUnits}
use Rattle.text_lines.specs.text_rules.Value.{listed_unit}
use Rattle.pns_text.proofs.value.listed_units.Given as goal

abbrev pub invariant-loop-line : goal.invariant-loop-line
invariant-loop-line l = l.units.items ≡ map (λ (line : Placed). listed_unit l.settings l.names
    l.lines line.text) (lines_at OperatingUnits (take l.line-index l.lines))
