use Rattle.std.proofs.Common.{◌≡◌, ◌+◌, ◌++◌, drop, string_bytes}
use Rattle.report_amounts.specs.pns_problem.Printing.{printed}
use Rattle.report_amounts.specs.report_rules.Graph.{listed_lines}
use Rattle.graph_text.proofs.list.push_listed.Given as goal

-- the text so far and the lines of the networks that are left give the whole text
abbrev pub invariant-listing : goal.invariant-listing
invariant-listing l = string_bytes l.text
    ++ printed (listed_lines l.problem l.first (l.i + 1) (drop l.i l.networks))
    ≡ string_bytes l.fn.text ++ printed (listed_lines l.problem l.first 1 l.networks)
