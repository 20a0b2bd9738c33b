use Rattle.std.proofs.Common.{◌≡◌, drop}
use Rattle.network_commands.specs.studio_rules.StableTable.{has_open}
use Rattle.stability_commands.proofs.table.has_open.Given as goal

abbrev pub invariant-rows : goal.invariant-rows
invariant-rows l = has_open (drop l.row-index l.rows) ≡ has_open l.rows
