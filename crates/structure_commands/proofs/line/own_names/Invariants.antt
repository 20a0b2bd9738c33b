use Rattle.std.proofs.Common.{◌≡◌, ◌++◌, drop}
use Rattle.text_lines.specs.View.{texts}
use Rattle.text_lines.specs.text_rules.Line.{heads_at}
use Rattle.text_lines.specs.text_rules.declared.Section.TheVariants.{OperatingUnits}
use Rattle.structure_commands.proofs.line.own_names.Given as goal

abbrev pub invariant-loop-line : goal.invariant-loop-line
invariant-loop-line l = texts l.names.items ++ heads_at OperatingUnits (drop l.line-index
    l.lines) ≡ heads_at OperatingUnits l.lines
