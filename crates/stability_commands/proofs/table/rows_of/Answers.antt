use Rattle.std.proofs.Common.{◌∙◌, sym, subst, List}
use Rattle.stability.specs.problem_rules.Each.{Each}
use Rattle.stability.specs.report_rules.declared.spot.Spot.{Spot}
use Rattle.stability.specs.report_rules.Spot.{KnowsSpot}
use Rattle.stability_commands.proofs.RangeRows.{all_known}
use Rattle.stability_commands.proofs.table.rows_of.Goals as goal

pub rows_for-requires-clause-known : goal.rows_for-requires-clause-known
rows_for-requires-clause-known g c =
    subst (Each (KnowsSpot c.args.site.now)) (sym (c.deref.ensures.value ∙ c.in_ok-spots.ensures))
    (all_known c.args.site.now c.args.network.now c.requires.passes)
