use Rattle.std.proofs.Common.{◌≡◌, ◌∙◌, ◌++◌, ◌∷◌, [], ap, ℕ, List, map}
use Rattle.report_rules.specs.number_sets.Sets.{has}
use Rattle.report_rules.specs.Facts.{unit_json}
use Rattle.report_tables.proofs.report_amounts.Cited.{all_within, next_within, rest_within}
use Rattle.json_text.proofs.Values.{next_value, last_value}
use Rattle.json_text.proofs.units.unit_values.Goals as goal

pub loop-u-init : goal.loop-u-init
loop-u-init c =
    let w = c.args.network.now in
    let are : c.into_iter-u-iterator.result ≡ w.units =
    c.into_iter-u-iterator.ensures.into_iter_gives.0 ∙ c.units-u-items.ensures in
    record {
      within = all_within c.into_iter-u-iterator.result w.units are;
      values = λ i. c.new-values.ensures.items i
          ++ map (unit_json c.args.problem.now w c.args.marginals.now) (are i);
    }

pub returns : goal.returns
returns c =
    last_value (unit_json c.args.problem.now c.args.network.now c.args.marginals.now)
    c.loop-u.u-iterator c.loop-u.values.items _ c.in-None.ensures.steps.0 c.loop-u.invariant.values

pub unit_json-requires : goal.unit_json-requires
unit_json-requires c =
    c.requires c.in-Some.u
    (next_within (has c.args.network.now.units) c.loop-u.u-iterator c.next.new.self c.in-Some.u
    c.in-Some.ensures.steps c.loop-u.invariant.within)

pub loop-u-preserved : goal.loop-u-preserved
loop-u-preserved c = record {
  within =
      rest_within (has c.args.network.now.units) c.loop-u.u-iterator c.next.new.self c.in-Some.u
      c.in-Some.ensures.steps c.loop-u.invariant.within;
  values =
      next_value (unit_json c.args.problem.now c.args.network.now c.args.marginals.now)
      c.loop-u.u-iterator c.next.new.self c.in-Some.u c.loop-u.values.items c.push.new.self.items _
      c.in-Some.ensures.steps
      (c.in_ok-push.ensures.items
      ∙ ap (λ (r : List ℕ). c.loop-u.values.items ++ r ∷ []) c.in_ok-unit_json.ensures)
      c.loop-u.invariant.values;
}
