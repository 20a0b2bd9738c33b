use Rattle.std.proofs.Common.{◌≡◌, length}
use Rattle.text_lines.specs.Words.{looked_up}
use Rattle.text_lines.proofs.words.looked_up.Given as goal

abbrev pub invariant-loop-rows : goal.invariant-loop-rows
invariant-loop-rows g l = looked_up l.rows l.text ≡ looked_up l.initial.rows l.text

abbrev pub decreases-loop-rows : goal.decreases-loop-rows
decreases-loop-rows g l = length l.rows
