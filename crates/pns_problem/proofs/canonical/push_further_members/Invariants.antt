use Rattle.pns_problem.proofs.Printed.{AreMembersPrinted}
use Rattle.std.proofs.Common.{length, string_bytes}
use Rattle.text_rules.specs.problem_rules.Problem.{unit_names}
use Rattle.pns_problem.proofs.canonical.push_further_members.Given as goal

abbrev pub invariant-printing : goal.invariant-printing
invariant-printing l = AreMembersPrinted (length l.units) (unit_names
    l.units) l.members l.member-index (string_bytes l.fn.text) (string_bytes l.text)
