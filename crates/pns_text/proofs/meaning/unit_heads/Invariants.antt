use Rattle.std.proofs.Common.{◌≡◌, take}
use Rattle.text_lines.specs.text_rules.declared.Section.TheVariants.{OperatingUnits}
use Rattle.text_lines.specs.text_rules.Line.{heads_at}
use Rattle.text_lines.specs.View.{texts}
use Rattle.pns_text.proofs.meaning.unit_heads.Given as goal

abbrev pub invariant-loop-line : goal.invariant-loop-line
invariant-loop-line l = texts l.heads.items ≡ heads_at OperatingUnits (take l.line-index l.lines)
