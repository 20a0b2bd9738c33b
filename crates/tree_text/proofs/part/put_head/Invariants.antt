use Rattle.std.proofs.Common.{map, drop}
use Rattle.tree_text_rules.specs.problem_rules.Each.{Each}
use Rattle.flow_program.specs.pgraph.View.{step_of}
use Rattle.tree_text_rules.specs.tree_rules.Known.{KnowsStep}
use Rattle.tree_text_rules.specs.Spelling.{step_line, head_lines}
use Rattle.tree_text.proofs.Printed.{Finishes}
use Rattle.tree_text.proofs.part.put_head.Given as goal

abbrev pub invariant-printing : goal.invariant-printing
invariant-printing g l = record {
  known : Each (KnowsStep l.problem) (map step_of (drop l.step-index l.steps));
  finishes : Finishes (map (step_line l.problem) (map step_of (drop l.step-index l.steps)))
      (head_lines l.problem l.fn.option (map step_of l.steps)) (g.K.Sink.state l.fn.out)
      (g.K.Sink.state l.out);
}
