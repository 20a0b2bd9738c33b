use Rattle.std.proofs.Common.{◌≡◌, drop}
use Rattle.report_rules.specs.flow_rules.Net.{beside}
use Rattle.report_amounts.proofs.marginals.beside.Given as goal

abbrev pub invariant-rows : goal.invariant-rows
invariant-rows l = beside l.left (drop l.value-index l.values) l.j ≡ beside l.fn.set l.values l.j
