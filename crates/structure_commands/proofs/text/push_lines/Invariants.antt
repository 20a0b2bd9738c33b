use Rattle.std.proofs.Common.{◌≡◌, ◌++◌, drop, string_bytes}
use Rattle.std.specs.Prelude.{flat_map}
use Rattle.text_lines.specs.number_sets.Sets.{has}
use Rattle.text_lines.specs.View.{texts}
use Rattle.cert_check.specs.pns_problem.Printing.{printed}
use Rattle.command_files.specs.report_rules.Lint.{line_lines}
use Rattle.structure_commands.proofs.text.push_lines.Given as goal

-- the text so far and the lines of what is left give the whole text
abbrev pub invariant-pushing : goal.invariant-pushing
invariant-pushing l =
    string_bytes l.text
    ++ printed
    (flat_map (line_lines l.plant.problem (has l.plant.units) (texts l.own))
    (drop l.line-index l.lines))
    ≡ string_bytes l.initial.text
    ++ printed (flat_map (line_lines l.plant.problem (has l.plant.units) (texts l.own)) l.lines)
