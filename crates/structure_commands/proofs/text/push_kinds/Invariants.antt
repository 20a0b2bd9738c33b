use Rattle.std.proofs.Common.{◌≡◌, ◌++◌, drop, string_bytes}
use Rattle.std.specs.Prelude.{flat_map, filter}
use Rattle.text_lines.specs.number_sets.Sets.{has}
use Rattle.cert_check.specs.pns_problem.Printing.{printed}
use Rattle.command_files.specs.report_rules.Item.{name_of, stands}
use Rattle.command_files.specs.report_rules.Lint.{warning_lines}
use Rattle.structure_commands.proofs.text.push_kinds.Given as goal

-- the text so far and the lines of the kinds that are left give the whole text
abbrev pub invariant-trying : goal.invariant-trying
invariant-trying l =
    string_bytes l.text
    ++ printed
    (flat_map (warning_lines l.number (name_of l.plant.problem l.item))
    (filter (stands l.plant.problem (has l.plant.units) l.item) (drop l.kind-index l.kinds)))
    ≡ string_bytes l.initial.text
    ++ printed
    (flat_map (warning_lines l.number (name_of l.plant.problem l.item))
    (filter (stands l.plant.problem (has l.plant.units) l.item) l.kinds))
