use Rattle.std.proofs.Common.{◌≤◌, ◌*◌, ◌-◌, [], zero, length}
use Rattle.tree_text_rules.specs.tree_rules.Known.{AreUnits, KnowsTree}
use Rattle.tree_reading.specs.Gives.{begun}
use Rattle.tree_reading.specs.Place.{IsReached, lines_at}
use Rattle.tree_reading.proofs.NodeByNode.{IsBegun}
use Rattle.tree_reading.proofs.nodes.read_nodes.Given as goal

-- the nodes so far and the lines that are left give the whole tree; each line adds less than 2^32
-- subtrees
abbrev pub invariant-nodes : goal.invariant-nodes
invariant-nodes l = record {
  whole : IsBegun l.fn.problem
      (begun l.fn.problem [] zero l.fn.cut.line (lines_at l.fn.bytes l.fn.cut)) l.nodes.items
      l.option l.pending l.at.line (lines_at l.fn.bytes l.at);
  reached : IsReached l.fn.bytes l.fn.cut l.at;
  count : length l.nodes.items ≤ l.at.at;
  few : l.pending ≤ l.at.at * 4294967295;
  known : KnowsTree l.fn.problem l.nodes.items;
  option_known : AreUnits l.fn.problem l.option;
}

abbrev pub decreases-nodes : goal.decreases-nodes
decreases-nodes l = length l.fn.bytes - l.at.at
