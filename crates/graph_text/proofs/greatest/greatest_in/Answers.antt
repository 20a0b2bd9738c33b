use Rattle.std.proofs.Common.{◌≡◌, ◌∙◌, ap}
use Rattle.report_amounts.specs.number_sets.Sets.{has}
use Rattle.report_amounts.specs.report_rules.Drawn.{most_from}
use Rattle.report_amounts.proofs.Cited.{all_within, next_within, rest_within}
use Rattle.graph_text.proofs.Most.{next_unit, last_unit}
use Rattle.graph_text.proofs.greatest.greatest_in.Goals as goal

pub loop-u-init : goal.loop-u-init
loop-u-init c =
    let w = c.args.network.now in
    let are : c.into_iter-u-iterator.result ≡ w.units =
    c.into_iter-u-iterator.ensures.into_iter_gives.0 ∙ c.units-u-items.ensures in
    record {
      within = all_within c.into_iter-u-iterator.result w.units are;
      most = ap (most_from c.args.problem.now w 0) are;
    }

pub returns : goal.returns
returns c =
    last_unit c.args.problem.now c.args.network.now c.loop-u.u-iterator c.loop-u.most _
    c.in-None.ensures.steps.0 c.loop-u.invariant.most

pub most_at-most-requires-clause-in_network : goal.most_at-most-requires-clause-in_network
most_at-most-requires-clause-in_network c =
    next_within (has c.args.network.now.units) c.loop-u.u-iterator c.next.new.self c.in-Some.u
    c.in-Some.ensures.steps c.loop-u.invariant.within

pub most_at-most-requires-clause-unit : goal.most_at-most-requires-clause-unit
most_at-most-requires-clause-unit c =
    c.requires.structure.s3 c.in-Some.u
    (next_within (has c.args.network.now.units) c.loop-u.u-iterator c.next.new.self c.in-Some.u
    c.in-Some.ensures.steps c.loop-u.invariant.within)

pub loop-u-preserved : goal.loop-u-preserved
loop-u-preserved c = record {
  within =
      rest_within (has c.args.network.now.units) c.loop-u.u-iterator c.next.new.self c.in-Some.u
      c.in-Some.ensures.steps c.loop-u.invariant.within;
  most =
      next_unit c.args.problem.now c.args.network.now c.loop-u.u-iterator c.next.new.self
      c.in-Some.u c.loop-u.most _ _ c.in-Some.ensures.steps c.most_at-most.ensures
      c.loop-u.invariant.most;
}
