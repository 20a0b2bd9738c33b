use Rattle.std.proofs.Common.{◌≡◌, drop}
use Rattle.text_lines.specs.problem_rules.Problem.{material_names}
use Rattle.command_files.specs.report_rules.Item.{number_of, number_from}
use Rattle.structure_commands.proofs.item.material_number.Given as goal

abbrev pub invariant-looking : goal.invariant-looking
invariant-looking l = record {
  counted : l.x ≡ l.material-index;
  found : number_from l.x (material_names (drop l.material-index l.materials)) l.name
      ≡ number_of (material_names l.materials) l.name;
}
