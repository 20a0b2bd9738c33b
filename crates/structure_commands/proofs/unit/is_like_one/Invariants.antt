use Rattle.std.proofs.Common.{◌≡◌, drop}
use Rattle.std.specs.List.{list_any}
use Rattle.command_files.specs.report_rules.Warned.{are_alike}
use Rattle.structure_commands.proofs.unit.is_like_one.Given as goal

abbrev pub invariant-looking : goal.invariant-looking
invariant-looking l = list_any (are_alike l.unit) (drop l.other-index
    l.others) ≡ list_any (are_alike l.unit) l.others
