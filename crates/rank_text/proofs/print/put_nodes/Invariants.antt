use Rattle.std.proofs.Common.{◌≤◌, drop, map}
use Rattle.tree_text_laws.specs.tree_rules.Known.{KnowsTree}
use Rattle.rank_check.specs.rank_rules.Marked.{marked}
use Rattle.rank_check.specs.View.{mark_of}
use Rattle.tree_text.proofs.Cited.{ArePrinted}
use Rattle.rank_check.specs.rank_rules.Spelling.{tree_lines}
use Rattle.rank_text.proofs.print.put_nodes.Given as goal

abbrev pub invariant-printing : goal.invariant-printing
invariant-printing g l = record {
  known : KnowsTree l.problem (drop l.node-index l.nodes);
  printed : ArePrinted (tree_lines l.problem (marked (map mark_of l.marks) l.nodes))
      (tree_lines l.problem (marked (map mark_of l.rest) (drop l.node-index l.nodes)))
      (g.K.Sink.state l.fn.out) (g.K.Sink.state l.out);
  later : (g.K.Sink.state l.fn.out).faults ≤ (g.K.Sink.state l.out).faults;
}
