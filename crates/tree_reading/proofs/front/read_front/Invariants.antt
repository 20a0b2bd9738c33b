use Rattle.std.proofs.Common.{◌≡◌, None, ◌-◌, length}
use Rattle.tree_text_rules.specs.tree_rules.HeadKnown.{KnowsHead}
use Rattle.branch_tree.specs.HeadView.{lines_of}
use Rattle.tree_text_rules.specs.Read.{front_taken}
use Rattle.tree_reading.specs.Place.{IsReached, lines_at}
use Rattle.tree_reading.proofs.FrontLines.{before}
use Rattle.tree_reading.proofs.front.read_front.Given as goal

-- the lines so far and the lines that are left give the whole head
abbrev pub invariant-front : goal.invariant-front
invariant-front l = record {
  leads : before (lines_of l.front.items)
      (front_taken l.fn.problem None l.at.line (lines_at l.fn.bytes l.at))
      ≡ front_taken l.fn.problem None l.fn.cut.line (lines_at l.fn.bytes l.fn.cut);
  reached : IsReached l.fn.bytes l.fn.cut l.at;
  known : KnowsHead l.fn.problem (lines_of l.front.items);
}

abbrev pub decreases-front : goal.decreases-front
decreases-front l = length l.fn.bytes - l.at.at
