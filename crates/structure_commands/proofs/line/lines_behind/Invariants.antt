use Rattle.std.proofs.Common.{◌≡◌, ◌++◌, length}
use Rattle.structure_commands.specs.Meant.{meant_from}
use Rattle.text_lines.specs.text_rules.declared.Section.TheVariants.{Preamble}
use Rattle.structure_commands.proofs.line.lines_behind.Given as goal

abbrev pub invariant-loop-number : goal.invariant-loop-number
invariant-loop-number l = l.kept.items ++ meant_from l.section l.lines.number l.lines.lines ≡ meant_from Preamble 2 l.initial.lines.lines

abbrev pub decreases-loop-number : goal.decreases-loop-number
decreases-loop-number l = length l.lines.lines
