use Rattle.std.proofs.Common.{string_bytes}
use Rattle.report_amounts.proofs.pns_problem.Cited.{AreLinesPrinted}
use Rattle.report_amounts.specs.report_rules.Graph.{input_line}
use Rattle.graph_text.specs.Kept.{picture_of}
use Rattle.graph_text.proofs.arcs.push_inputs.Given as goal

abbrev pub invariant-printing : goal.invariant-printing
invariant-printing l = AreLinesPrinted (input_line (picture_of l.fn.picture)
    l.fn.u) l.terms l.term-index (string_bytes l.fn.text) (string_bytes l.text)
