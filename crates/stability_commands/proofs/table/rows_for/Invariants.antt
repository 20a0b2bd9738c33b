use Rattle.std.proofs.Common.{drop}
use Rattle.stability.specs.problem_rules.Each.{Each}
use Rattle.stability.specs.report_rules.Spot.{KnowsSpot}
use Rattle.stability_commands.proofs.RangeRows.{GoOn}
use Rattle.stability_commands.proofs.table.rows_for.Given as goal

abbrev pub invariant-finding : goal.invariant-finding
invariant-finding g l = record {
  known : Each (KnowsSpot l.site) (drop l.spot-index l.spots);
  rows : GoOn l.fn.effort.budget l.site l.network l.spots (drop l.spot-index l.spots) l.rows.items;
}
