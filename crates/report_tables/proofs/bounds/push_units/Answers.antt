use Rattle.std.proofs.Common.{◌≡◌, ◌<◌, ◌++◌, ◌∙◌, List, ap, sym, subst, string_bytes, length, pos}
use Rattle.std.proofs.Common.{ℕ, SFits, rules, arith}
use Rattle.std.specs.Prelude.{flat_map}
use Rattle.std.specs.Int.{w128}
use Rattle.std.proofs.lemmas.Int.{to_z-of_z}
use Rattle.text_lines.specs.number_sets.Sets.{has}
use Rattle.text_lines.specs.problem_rules.Problem.{Problem, rate_of}
use Rattle.cert_check.specs.pns_rules.Shape.{shape_of}
use Rattle.cert_check.specs.pgraph.View.{node_of}
use Rattle.cert_check.specs.pns_problem.Printing.{printed}
use Rattle.cert_check.specs.flow_rules.Net.{net_of}
use Rattle.cert_check.specs.flow_rules.Relaxed.{stays, unit_low, reduced_cost}
use Rattle.cert_check.specs.flow_rules.Steps.{AreInRange}
use Rattle.cert_check.specs.flow_rules.BoundSteps.{rows_at, reduced_steps}
use Rattle.cert_check.specs.flow_program.Entry.{entry}
use Rattle.cert_check.proofs.flow_program.Cited.{listed_had}
use Rattle.report_amounts.proofs.Cited.{all_within, next_within, rest_within}
use Rattle.report_amounts.specs.report_rules.Clash.{unit_here, unit_lines}
use Rattle.report_tables.proofs.Appended.{next_lines, last_lines}
use Rattle.report_tables.proofs.Lefts.{rates_in_range, left_is}
use Rattle.report_tables.proofs.bounds.push_units.Goals as goal

pub loop-u-init : goal.loop-u-init
loop-u-init c =
    let p = c.args.site.now in
    let n = node_of c.args.node.now in
    let y = entry c.args.ys.now in
    let are : c.into_iter-u-iterator.result ≡ c.args.set =
    c.into_iter-u-iterator.ensures.into_iter_gives.0 in
    record {
      within = all_within c.into_iter-u-iterator.result c.args.set are;
      text =
          (λ i. string_bytes c.args.text.now
          ++ printed
          (flat_map
          (λ i. unit_here p i (unit_low (net_of p) n i) (reduced_cost (net_of p) n (pos 0) y i))
          (are i)))
          ∙ ap
          (λ (us : List ℕ). string_bytes c.args.text.now
          ++ printed
          (flat_map
          (λ i. unit_here p i (unit_low (net_of p) n i) (reduced_cost (net_of p) n (pos 0) y i))
          us)) c.requires.units;
    }

pub put_rates-materials-requires-clause-unit : goal.put_rates-materials-requires-clause-unit
put_rates-materials-requires-clause-unit c =
    let n = node_of c.args.node.now in
    let there =
    listed_had (length c.args.site.now.units) (stays n) c.args.set c.in-Some.u c.requires.units
    (next_within (has c.args.set) c.loop-u.u-iterator c.next.new.self c.in-Some.u
    c.in-Some.ensures.steps c.loop-u.invariant.within) in
    subst (λ (p : Problem). c.in-Some.u < length p.units) (sym c.problem-problem.ensures.same)
    there.0

pub put_rates-materials-requires-clause-graph : goal.put_rates-materials-requires-clause-graph
put_rates-materials-requires-clause-graph c =
    c.graph-graph.ensures.same ∙ ap shape_of (sym c.problem-problem.ensures.same)

pub unit_numbers-unit-requires-clause-unit : goal.unit_numbers-unit-requires-clause-unit
unit_numbers-unit-requires-clause-unit c =
    let n = node_of c.args.node.now in
    let there =
    listed_had (length c.args.site.now.units) (stays n) c.args.set c.in-Some.u c.requires.units
    (next_within (has c.args.set) c.loop-u.u-iterator c.next.new.self c.in-Some.u
    c.in-Some.ensures.steps c.loop-u.invariant.within) in
    subst (λ (p : Problem). c.in-Some.u < length p.units) (sym c.problem-problem.ensures.same)
    there.0

pub left_after-left-requires-clause-in_range : goal.left_after-left-requires-clause-in_range
left_after-left-requires-clause-in_range c =
    let q = c.problem-problem.result.now in
    let n = node_of c.args.node.now in
    let y = entry c.args.ys.now in
    let u = c.in-Some.u in
    let in_set =
    next_within (has c.args.set) c.loop-u.u-iterator c.next.new.self u c.in-Some.ensures.steps
    c.loop-u.invariant.within in
    let there =
    listed_had (length c.args.site.now.units) (stays n) c.args.set u c.requires.units in_set in
    rates_in_range q c.is_valid.ensures.well_formed n y u c.put_rates-materials.result
    c.put_rates-materials.new.rates c.rises.ensures c.put_rates-materials.ensures
    (subst (λ (p : Problem). u < length p.units) (sym c.problem-problem.ensures.same) there.0)
    there.1
    (subst
    (λ (p : Problem). AreInRange
    (reduced_steps y (λ j. rate_of p j u) (rows_at (net_of p) n u) (pos 0)))
    (sym c.problem-problem.ensures.same) (c.requires.in_range u in_set))

pub push_unit-requires-clause-known : goal.push_unit-requires-clause-known
push_unit-requires-clause-known c =
    let n = node_of c.args.node.now in
    let there =
    listed_had (length c.args.site.now.units) (stays n) c.args.set c.in-Some.u c.requires.units
    (next_within (has c.args.set) c.loop-u.u-iterator c.next.new.self c.in-Some.u
    c.in-Some.ensures.steps c.loop-u.invariant.within) in
    subst (λ (p : Problem). c.in-Some.u < length p.units) (sym c.problem-problem.ensures.same)
    there.0

pub push_unit-requires-clause-low_in_range : goal.push_unit-requires-clause-low_in_range
push_unit-requires-clause-low_in_range c =
    let lo : SFits w128 c.unit_numbers-unit.result.low = search rules in
    let small = c.unit_numbers-unit.ensures.low_small in
    simp to_z-of_z (let room = small in omega arith)

pub loop-u-preserved : goal.loop-u-preserved
loop-u-preserved c =
    let p = c.args.site.now in
    let q = c.problem-problem.result.now in
    let n = node_of c.args.node.now in
    let y = entry c.args.ys.now in
    let u = c.in-Some.u in
    let text = string_bytes c.loop-u.text in
    let lo : SFits w128 c.unit_numbers-unit.result.low = search rules in
    let le : SFits w128 c.left_after-left.result = search rules in
    let in_set =
    next_within (has c.args.set) c.loop-u.u-iterator c.next.new.self u c.in-Some.ensures.steps
    c.loop-u.invariant.within in
    let there = listed_had (length p.units) (stays n) c.args.set u c.requires.units in_set in
    let left : c.left_after-left.result ≡ reduced_cost (net_of q) n (pos 0) y u =
    c.left_after-left.ensures
    ∙ left_is q c.is_valid.ensures.well_formed n y u c.put_rates-materials.result
    c.put_rates-materials.new.rates c.rises.ensures c.put_rates-materials.ensures
    (subst (λ (p : Problem). u < length p.units) (sym c.problem-problem.ensures.same) there.0)
    there.1 in
    record {
      within =
          rest_within (has c.args.set) c.loop-u.u-iterator c.next.new.self u c.in-Some.ensures.steps
          c.loop-u.invariant.within;
      text =
          next_lines
          (λ i. unit_here p i (unit_low (net_of p) n i) (reduced_cost (net_of p) n (pos 0) y i))
          c.loop-u.u-iterator c.next.new.self u text (string_bytes c.push_unit.new.text)
          (string_bytes c.args.text.now ++ printed (unit_lines p n y)) c.in-Some.ensures.steps
          ((simp to_z-of_z at c.in_ok-push_unit.ensures)
          ∙ (λ i. text ++ printed (unit_here q u (c.unit_numbers-unit.ensures.low i) (left i)))
          ∙ ap
          (λ (r : Problem). text
          ++ printed
          (unit_here r u (unit_low (net_of r) n u) (reduced_cost (net_of r) n (pos 0) y u)))
          c.problem-problem.ensures.same)
          c.loop-u.invariant.text;
    }

pub returns : goal.returns
returns c =
    let p = c.args.site.now in
    let n = node_of c.args.node.now in
    last_lines
    (λ i. unit_here p i (unit_low (net_of p) n i)
    (reduced_cost (net_of p) n (pos 0) (entry c.args.ys.now) i)) c.loop-u.u-iterator
    (string_bytes c.loop-u.text)
    (string_bytes c.args.text.now ++ printed (unit_lines p n (entry c.args.ys.now)))
    c.in-None.ensures.steps.0 c.loop-u.invariant.text
