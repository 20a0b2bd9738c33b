use Rattle.std.proofs.Common.{◌≡◌, drop}
use Rattle.text_lines.specs.problem_rules.Problem.{exclusion_names}
use Rattle.command_files.specs.report_rules.Item.{number_of, number_from}
use Rattle.structure_commands.proofs.item.exclusion_number.Given as goal

abbrev pub invariant-looking : goal.invariant-looking
invariant-looking l = record {
  counted : l.k ≡ l.exclusion-index;
  found : number_from l.k (exclusion_names (drop l.exclusion-index l.exclusions)) l.name
      ≡ number_of (exclusion_names l.exclusions) l.name;
}
