use Rattle.std.proofs.Common.{drop}
use Rattle.tree_text_rules.specs.tree_rules.Known.{KnowsTree}
use Rattle.tree_text_rules.specs.Spelling.{tree_lines}
use Rattle.tree_text.proofs.Printed.{Finishes}
use Rattle.tree_text.proofs.part.put_nodes.Given as goal

abbrev pub invariant-printing : goal.invariant-printing
invariant-printing g l = record {
  known : KnowsTree l.problem (drop l.node-index l.nodes);
  finishes : Finishes (tree_lines l.problem (drop l.node-index l.nodes))
      (tree_lines l.problem l.nodes) (g.K.Sink.state l.fn.out) (g.K.Sink.state l.out);
}
