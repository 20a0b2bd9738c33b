use Rattle.std.proofs.Common.{[], false, string_bytes}
use Rattle.cert_check.proofs.pns_problem.Cited.{AreLinesPrinted}
use Rattle.report_amounts.specs.report_rules.Aligned.{line_text}
use Rattle.report_tables.proofs.table.push_rows.Given as goal

abbrev pub invariant-printing : goal.invariant-printing
invariant-printing l = AreLinesPrinted (line_text false 0 []
    l.columns) l.rows l.row-index (string_bytes l.fn.text) (string_bytes l.text)
