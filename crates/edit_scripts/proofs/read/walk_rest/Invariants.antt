use Rattle.std.proofs.Common.{◌≡◌, length}
use Rattle.text_lines.specs.edit_rules.Read.{lines_read}
use Rattle.edit_scripts.specs.Walk.{read_on}
use Rattle.edit_scripts.proofs.read.walk_rest.Given as goal

-- the lines that remain complete the script
abbrev pub invariant-reading : goal.invariant-reading
invariant-reading l = read_on l.walk l.lines.number l.lines.lines ≡ lines_read l.fn.lines.number l.fn.lines.lines

abbrev pub decreases-reading : goal.decreases-reading
decreases-reading l = length l.lines.lines
