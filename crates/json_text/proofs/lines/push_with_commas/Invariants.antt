use Rattle.tree_reading.proofs.pns_problem.Cited.{AreLinesPrinted}
use Rattle.report_rules.specs.Json.{with_comma}
use Rattle.json_text.proofs.lines.push_with_commas.Given as goal

abbrev pub invariant-printing : goal.invariant-printing
invariant-printing l = AreLinesPrinted with_comma l.pieces l.piece-index l.fn.text.items l.text.items
