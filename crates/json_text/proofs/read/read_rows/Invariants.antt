use Rattle.std.proofs.Common.{◌≡◌, [], ◌-◌, length}
use Rattle.tree_reading.specs.Place.{IsCut, lines_at}
use Rattle.report_rules.specs.RangeTable.{rows_taken}
use Rattle.json_text.proofs.read.read_rows.Given as goal

-- the rows so far and the lines that are left give all rows
abbrev pub invariant-reading : goal.invariant-reading
invariant-reading l = record {
  whole : rows_taken l.fn.problem l.rows.items l.at.line (lines_at l.fn.bytes l.at)
      ≡ rows_taken l.fn.problem [] l.fn.cut.line (lines_at l.fn.bytes l.fn.cut);
  is_cut : IsCut l.fn.bytes l.at;
}

abbrev pub decreases-reading : goal.decreases-reading
decreases-reading l = length l.fn.bytes - l.at.at
