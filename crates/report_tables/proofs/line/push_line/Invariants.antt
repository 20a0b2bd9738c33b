use Rattle.std.proofs.Common.{◌≡◌, ◌++◌, [], drop, string_bytes}
use Rattle.report_amounts.specs.report_rules.Aligned.{line_text}
use Rattle.report_tables.proofs.line.push_line.Given as goal

-- the line so far and the cells that are left give the whole line
abbrev pub invariant-columns : goal.invariant-columns
invariant-columns l = string_bytes l.text ++ line_text l.heading l.k (string_bytes l.gap) (drop l.k
    l.columns) l.row ≡ string_bytes l.fn.text ++ line_text l.heading 0 [] l.columns l.row
