use Rattle.std.proofs.Common.{◌≡◌, ◌++◌, get_or, string_bytes, arith}
use Rattle.std.proofs.lemmas.Grind.{common_steps}
use Rattle.text_rules.specs.Canonical.{name_at}
use Rattle.text_rules.specs.problem_rules.Problem.{unit_names}
use Rattle.pns_problem.proofs.PrintingLemmas.{members_text}
use Rattle.pns_problem.proofs.canonical.push_members.Goals as goal

pub returns : goal.returns
returns c =
    let e : string_bytes c.push_str.new.self ≡ string_bytes c.args.text.now
    ++ name_at (unit_names c.args.units.now) (get_or c.args.members.now 0 0) =
    grind (arith, common_steps) in
    members_text (unit_names c.args.units.now) c.args.members.now (string_bytes c.args.text.now)
    (string_bytes c.push_str.new.self) (string_bytes c.push_further_members.new.text)
    c.requires.some e c.in_ok-push_further_members.ensures
