use Rattle.std.proofs.Common.{List, subst, sym, refl}
use Rattle.stability.specs.problem_rules.Problem.{Problem}
use Rattle.stability.specs.tree_rules.Claim.{Network, IsFeasible}
use Rattle.stability.specs.tree_text_rules.Line.{Token}
use Rattle.stability.specs.report_rules.declared.side.Side.TheVariants.{Below, Above}
use Rattle.stability.specs.report_rules.Spot.{KnowsSpot}
use Rattle.stability.specs.report_rules.Range.{IsRange}
use Rattle.stability.specs.Refusal.{IsRefusal}
use Rattle.network_commands.specs.studio_rules.Stable.{range_lines, SpotWork}
use Rattle.network_commands.specs.studio_rules.Printed.{OneAnswer}
use Rattle.network_commands.specs.studio_rules.declared.status.Status.TheVariants.{Done}
use Rattle.network_commands.proofs.command_files.Cited.{Tells-map, Ends-from}
use Rattle.stability_commands.proofs.Told.{knows_beyond, range_told}
use Rattle.stability_commands.proofs.stable.say_range.Goals as goal

pub print_range-printed-requires-clause-below : goal.print_range-printed-requires-clause-below
print_range-printed-requires-clause-below g c =
    let r = c.in-Ok.range in
    let is : IsRange c.args.problem.now c.args.spot c.args.network.now r.from r.to r.below r.above =
    subst
    (λ (q : Problem). IsRange q c.args.spot c.args.network.now r.from r.to r.below r.above)
    c.of-site.ensures c.in-Ok.ensures.range in
    knows_beyond c.structures_stay.ensures.shape c.args.problem.now c.args.spot c.requires.known
    c.args.network.now Below r.from r.below is.ends_below

pub print_range-printed-requires-clause-above : goal.print_range-printed-requires-clause-above
print_range-printed-requires-clause-above g c =
    let r = c.in-Ok.range in
    let is : IsRange c.args.problem.now c.args.spot c.args.network.now r.from r.to r.below r.above =
    subst
    (λ (q : Problem). IsRange q c.args.spot c.args.network.now r.from r.to r.below r.above)
    c.of-site.ensures c.in-Ok.ensures.range in
    knows_beyond c.structures_stay.ensures.shape c.args.problem.now c.args.spot c.requires.known
    c.args.network.now Above r.to r.above is.ends_above

pub returns-in-Ok : goal.returns-in-Ok
returns-in-Ok g c =
    let p = c.args.problem.now in
    let w : Network = c.args.network.now in
    let r = c.in-Ok.range in
    let lines : List (List Token) = range_lines p r.from r.to r.below r.above in
    Ends-from _ _ c.args.out.now _ c.say_printed.new.out _ c.out.view_is
    (Tells-map (OneAnswer Done lines) (SpotWork c.args.spot c.args.effort.budget p w)
    (range_told p c.args.spot w c.args.effort.budget r.from r.to r.below r.above
    (subst (λ (q : Problem). IsRange q c.args.spot w r.from r.to r.below r.above)
    c.of-site.ensures c.in-Ok.ensures.range)))
    (c.say_printed.ensures lines _ refl c.print_range-printed.ensures.later
    c.print_range-printed.ensures.prints)

pub say_refusal-requires-clause-refusal : goal.say_refusal-requires-clause-refusal
say_refusal-requires-clause-refusal g c = (
  c.args.network.now,
  c.args.effort.budget,
  subst
      (λ (q : Problem). IsRefusal q c.args.spot c.args.network.now c.args.effort.budget
      c.in-Err.fault) c.of-site.ensures c.in-Err.ensures.refusal,
)

pub returns-in-Err : goal.returns-in-Err
returns-in-Err g c =
    c.say_refusal.ensures c.args.network.now c.args.effort.budget
    (subst
    (λ (q : Problem). IsRefusal q c.args.spot c.args.network.now c.args.effort.budget
    c.in-Err.fault) c.of-site.ensures c.in-Err.ensures.refusal)

pub range-requires-clause-passes : goal.range-requires-clause-passes
range-requires-clause-passes g c =
    subst (λ (q : Problem). IsFeasible q c.args.network.now) (sym c.of-site.ensures)
    c.requires.passes

pub range-requires-clause-known : goal.range-requires-clause-known
range-requires-clause-known g c =
    subst (λ (q : Problem). KnowsSpot q c.args.spot) (sym c.of-site.ensures) c.requires.known
