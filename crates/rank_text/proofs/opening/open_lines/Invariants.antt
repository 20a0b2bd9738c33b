use Rattle.std.proofs.Common.{◌≡◌, ◌-◌, ◌++◌, length, take, map}
use Rattle.rank_check.specs.View.{mark_of}
use Rattle.tree_reading.specs.Place.{IsReached, lines_at}
use Rattle.rank_check.specs.rank_rules.Opened.{opened, marks_taken, so_far}
use Rattle.rank_text.proofs.OpenBytes.{bytes_of, opened_from}
use Rattle.rank_text.proofs.opening.open_lines.Given as goal

-- the text and the marks so far, and the lines that are left, give the whole of them
abbrev pub invariant-opening : goal.invariant-opening
invariant-opening l = record {
  reached : IsReached l.bytes l.fn.cut l.at;
  text : l.opened.items ++ bytes_of (map (opened l.distinct) (lines_at l.bytes l.at))
      ≡ take l.fn.cut.at l.bytes ++ opened_from l.distinct l.bytes l.fn.cut.at;
  marks : so_far (map mark_of l.marks.items) l.fault
      (marks_taken l.distinct l.at.line (lines_at l.bytes l.at))
      ≡ marks_taken l.distinct l.fn.cut.line (lines_at l.bytes l.fn.cut);
}

abbrev pub decreases-opening : goal.decreases-opening
decreases-opening l = length l.bytes - l.at.at
