use Rattle.std.proofs.Common.{drop}
use Rattle.tree_text_rules.specs.tree_rules.HeadKnown.{KnowsHead}
use Rattle.branch_tree.specs.HeadView.{lines_of}
use Rattle.tree_text_rules.specs.Spelling.{front_lines}
use Rattle.tree_text.proofs.Printed.{Finishes}
use Rattle.tree_text.proofs.front.put_front.Given as goal

abbrev pub invariant-printing : goal.invariant-printing
invariant-printing g l = record {
  known : KnowsHead l.problem (lines_of (drop l.front_line-index l.front));
  finishes : Finishes (front_lines l.problem (lines_of (drop l.front_line-index l.front)))
      (front_lines l.problem (lines_of l.front)) (g.K.Sink.state l.fn.out) (g.K.Sink.state l.out);
}
