use Rattle.std.proofs.Common.{◌≡◌, ◌++◌, ◌+◌, map, drop}
use Rattle.text_lines.specs.edit_rules.Formed.{lines_from}
use Rattle.edit_scripts.specs.View.{edit_of}
use Rattle.edit_scripts.proofs.script.lines_of.Given as goal

-- the lines of the edits that remain complete the list
abbrev pub invariant-numbering : goal.invariant-numbering
invariant-numbering l = l.lines.items ++ lines_from (l.i
    + 2) (map edit_of (drop l.i l.edits)) ≡ lines_from 2 (map edit_of l.edits)
