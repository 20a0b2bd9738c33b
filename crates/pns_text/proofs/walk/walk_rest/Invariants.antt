use Rattle.std.proofs.Common.{◌≡◌, length}
use Rattle.pns_text.specs.View.{walk_view}
use Rattle.pns_text.specs.Walk.{walk_start, read_on, HasNames}
use Rattle.pns_text.proofs.walk.walk_rest.Given as goal

-- the lines that remain complete the reading
abbrev pub invariant-loop-number : goal.invariant-loop-number
invariant-loop-number l = record {
  to_come : read_on (walk_view l.walk) l.lines.number l.lines.lines
      ≡ read_on walk_start 2 l.fn.lines.lines;
  names : HasNames (walk_view l.walk) l.lines.number;
}

abbrev pub decreases-loop-number : goal.decreases-loop-number
decreases-loop-number l = length l.lines.lines
