use Rattle.std.proofs.Common.{map, drop}
use Rattle.tree_text_rules.specs.problem_rules.Each.{Each}
use Rattle.flow_program.specs.pgraph.CoversView.{covers_of}
use Rattle.tree_text_rules.specs.tree_rules.Known.{KnowsCover}
use Rattle.tree_text_rules.specs.Spelling.{cover_line}
use Rattle.tree_text.proofs.Printed.{Finishes}
use Rattle.tree_text.proofs.part.put_covers.Given as goal

abbrev pub invariant-printing : goal.invariant-printing
invariant-printing g l = record {
  known : Each (KnowsCover l.problem) (covers_of (drop l.cover-index l.covers));
  finishes : Finishes (map (cover_line l.problem) (covers_of (drop l.cover-index l.covers)))
      (map (cover_line l.problem) (covers_of l.covers)) (g.K.Sink.state l.fn.out)
      (g.K.Sink.state l.out);
}
