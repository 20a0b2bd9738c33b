use Rattle.std.proofs.Common.{◌<◌, length, string_bytes, arith}
use Rattle.std.proofs.lemmas.Grind.{common_steps}
use Rattle.text_rules.specs.problem_rules.Problem.{unit_names}
use Rattle.pns_problem.specs.Printing.{exclusion_line}
use Rattle.pns_problem.proofs.PrintingLemmas.{section_text}
use Rattle.pns_problem.proofs.canonical.push_exclusion_section.Goals as goal

pub returns : goal.returns
returns c =
    let some : 0 < length c.args.exclusions.now = grind (arith, common_steps) in
    section_text (exclusion_line (unit_names c.args.units.now)) c.args.exclusions.now
    (string_bytes c.args.text.now) (string_bytes c.push_str.new.self)
    (string_bytes c.push_exclusion_lines.new.text)
    some c.in_ok-push_str.ensures.bytes c.in_ok-push_exclusion_lines.ensures
