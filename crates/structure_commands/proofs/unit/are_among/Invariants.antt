use Rattle.std.proofs.Common.{◌≡◌, drop}
use Rattle.command_files.specs.report_rules.Warned.{are_among}
use Rattle.structure_commands.proofs.unit.are_among.Given as goal

abbrev pub invariant-looking : goal.invariant-looking
invariant-looking l = are_among l.others (drop l.term-index l.terms) ≡ are_among l.others l.terms
