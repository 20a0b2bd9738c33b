use Rattle.std.proofs.Common.{◌≡◌, drop}
use Rattle.report_rules.specs.flow_rules.Net.{beside}
use Rattle.report_rules.specs.tree_rules.Claim.{size_in}
use Rattle.report_amounts.proofs.sizes.size_at.Given as goal

abbrev pub invariant-units : goal.invariant-units
invariant-units l = beside l.left (drop l.size-index l.network.sizes) l.u ≡ size_in l.network l.u
