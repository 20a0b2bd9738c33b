use Rattle.std.proofs.Common.{◌≡◌, drop}
use Rattle.command_files.specs.report_rules.Warned.{are_fine}
use Rattle.structure_commands.proofs.unit.are_fine.Given as goal

abbrev pub invariant-looking : goal.invariant-looking
invariant-looking l = are_fine (drop l.term-index l.terms) ≡ are_fine l.terms
