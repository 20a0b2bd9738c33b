use Rattle.std.proofs.Common.{◌≡◌, ◌+◌, length}
use Rattle.periods.specs.Reading.{read_on, rest_read}
use Rattle.periods.proofs.text.read_rest.Given as goal

-- the lines that remain complete the reading, and all are counted
abbrev pub invariant-reading : goal.invariant-reading
invariant-reading l = record {
  to_come : read_on l.problem (l.fn.lines.number + length l.fn.lines.lines) l.reading l.lines
      ≡ rest_read l.problem l.fn.lines;
  counted : l.lines.number + length l.lines.lines ≡ l.fn.lines.number + length l.fn.lines.lines;
}

abbrev pub decreases-reading : goal.decreases-reading
decreases-reading l = length l.lines.lines
