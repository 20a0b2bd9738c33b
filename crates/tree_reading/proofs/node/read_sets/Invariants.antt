use Rattle.std.proofs.Common.{◌≡◌, ◌≤◌, [], ◌-◌, length}
use Rattle.tree_text_rules.specs.problem_rules.Each.{Each}
use Rattle.branch_tree.specs.pgraph.CoversView.{covers_of}
use Rattle.tree_text_rules.specs.tree_rules.Known.{KnowsCover}
use Rattle.tree_text_rules.specs.Read.{covers_taken}
use Rattle.tree_reading.specs.Place.{IsReached, lines_at}
use Rattle.tree_reading.proofs.node.read_sets.Given as goal

-- what is to come finishes the sets
abbrev pub invariant-sets : goal.invariant-sets
invariant-sets l = record {
  whole : covers_taken l.fn.problem (covers_of l.covers.items) l.at.line (lines_at l.fn.bytes l.at)
      ≡ covers_taken l.fn.problem [] l.fn.cut.line (lines_at l.fn.bytes l.fn.cut);
  reached : IsReached l.fn.bytes l.fn.cut l.at;
  known : Each (KnowsCover l.fn.problem) (covers_of l.covers.items);
  few : length l.covers.items ≤ 1000000;
}

abbrev pub decreases-sets : goal.decreases-sets
decreases-sets l = length l.fn.bytes - l.at.at
