use Rattle.std.proofs.Common.{◌≡◌, drop}
use Rattle.text_lines.specs.problem_rules.Problem.{unit_names}
use Rattle.command_files.specs.report_rules.Item.{number_of, number_from}
use Rattle.structure_commands.proofs.item.unit_number.Given as goal

abbrev pub invariant-looking : goal.invariant-looking
invariant-looking l = record {
  counted : l.u ≡ l.unit-index;
  found : number_from l.u (unit_names (drop l.unit-index l.units)) l.name
      ≡ number_of (unit_names l.units) l.name;
}
