use Rattle.std.proofs.Common.{◌≡◌, ◌∙◌, ◌++◌, ◌∷◌, [], ap, ℕ, List, map}
use Rattle.text_lines.specs.number_sets.Sets.{has}
use Rattle.report_amounts.specs.report_rules.Report.{unit_row}
use Rattle.report_amounts.proofs.Cited.{all_within, next_within, rest_within}
use Rattle.report_tables.proofs.Pieces.{next_row, last_row}
use Rattle.report_tables.proofs.units.unit_rows.Goals as goal

pub loop-u-init : goal.loop-u-init
loop-u-init c =
    let w = c.args.network.now in
    let are : c.into_iter-u-iterator.result ≡ w.units =
    c.into_iter-u-iterator.ensures.into_iter_gives.0 ∙ c.units-u-items.ensures in
    record {
      within = all_within c.into_iter-u-iterator.result w.units are;
      rows = λ i. c.new-rows.ensures.items i
          ++ map (unit_row c.args.problem.now w c.args.marginals.now) (are i);
    }

pub returns : goal.returns
returns c =
    last_row (unit_row c.args.problem.now c.args.network.now c.args.marginals.now)
    c.loop-u.u-iterator c.loop-u.rows.items _ c.in-None.ensures.steps.0 c.loop-u.invariant.rows

pub unit_row-requires : goal.unit_row-requires
unit_row-requires c =
    c.requires c.in-Some.u
    (next_within (has c.args.network.now.units) c.loop-u.u-iterator c.next.new.self c.in-Some.u
    c.in-Some.ensures.steps c.loop-u.invariant.within)

pub loop-u-preserved : goal.loop-u-preserved
loop-u-preserved c = record {
  within =
      rest_within (has c.args.network.now.units) c.loop-u.u-iterator c.next.new.self c.in-Some.u
      c.in-Some.ensures.steps c.loop-u.invariant.within;
  rows =
      next_row (unit_row c.args.problem.now c.args.network.now c.args.marginals.now)
      c.loop-u.u-iterator c.next.new.self c.in-Some.u c.loop-u.rows.items c.push.new.self.items _
      c.in-Some.ensures.steps
      (c.in_ok-push.ensures.items
      ∙ ap (λ (r : List (List ℕ)). c.loop-u.rows.items ++ r ∷ []) c.in_ok-unit_row.ensures)
      c.loop-u.invariant.rows;
}
