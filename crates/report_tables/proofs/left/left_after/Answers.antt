use Rattle.std.proofs.Common.{◌≡◌, ◌∙◌, SFits, rules, to_z, get_or, pos, ap, sym, subst, ℕ, List}
use Rattle.std.specs.Int.{w64, w128}
use Rattle.std.proofs.lemmas.Int.{to_z-of_z}
use Rattle.text_lines.specs.number_sets.Sets.{IsSet}
use Rattle.cert_check.specs.flow_rules.Steps.{AreInRange}
use Rattle.cert_check.specs.flow_rules.BoundSteps.{reduced_steps}
use Rattle.cert_check.specs.flow_program.Columns.{left_of}
use Rattle.cert_check.specs.flow_program.Entry.{entry}
use Rattle.cert_check.proofs.flow_program.Cited.{next_of}
use Rattle.report_tables.proofs.Lefts.{product_in_range, difference_in_range, rest_in_range}
use Rattle.report_tables.proofs.Lefts.{rest_left, all_left}
use Rattle.report_tables.proofs.left.left_after.Goals as goal

pub loop-j-init : goal.loop-j-init
loop-j-init c =
    let y = entry c.args.ys.now in
    let rate = entry c.args.rates.now in
    let are : c.into_iter-j-iterator.result ≡ c.args.materials =
    c.into_iter-j-iterator.ensures.into_iter_gives.0 in
    record {
      is_set = subst (IsSet 256) (sym are) c.into_iter-j-iterator.ensures.into_iter_gives.1;
      value = ap (λ (js : List ℕ). left_of y rate js (pos 0)) are;
      steps =
          subst (λ (js : List ℕ). AreInRange (reduced_steps y rate js (pos 0))) (sym are)
          c.requires.in_range;
    }

pub less_row-left-requires-clause-product : goal.less_row-left-requires-clause-product
less_row-left-requires-clause-product c =
    let y : SFits w128 (get_or c.args.ys.now c.in-Some.j (pos 0)) = search rules in
    let q : SFits w64 (get_or c.args.rates.now c.in-Some.j (pos 0)) = search rules in
    simp to_z-of_z
    (product_in_range (entry c.args.ys.now) (entry c.args.rates.now) c.loop-j.j-iterator
    (to_z w128 c.loop-j.left-bits) c.in-Some.j c.next.new.self c.in-Some.ensures.steps
    c.loop-j.invariant.steps)

pub less_row-left-requires-clause-difference : goal.less_row-left-requires-clause-difference
less_row-left-requires-clause-difference c =
    let y : SFits w128 (get_or c.args.ys.now c.in-Some.j (pos 0)) = search rules in
    let q : SFits w64 (get_or c.args.rates.now c.in-Some.j (pos 0)) = search rules in
    simp to_z-of_z
    (difference_in_range (entry c.args.ys.now) (entry c.args.rates.now) c.loop-j.j-iterator
    (to_z w128 c.loop-j.left-bits) c.in-Some.j c.next.new.self c.in-Some.ensures.steps
    c.loop-j.invariant.steps)

pub loop-j-preserved : goal.loop-j-preserved
loop-j-preserved c =
    let y = entry c.args.ys.now in
    let rate = entry c.args.rates.now in
    let a : SFits w128 (get_or c.args.ys.now c.in-Some.j (pos 0)) = search rules in
    let b : SFits w64 (get_or c.args.rates.now c.in-Some.j (pos 0)) = search rules in
    let t : SFits w128 c.less_row-left.result = search rules in
    let e = simp to_z-of_z at c.less_row-left.ensures in
    record {
      is_set =
          (next_of 256 c.loop-j.j-iterator c.in-Some.j c.next.new.self c.loop-j.invariant.is_set
          c.in-Some.ensures.steps).set;
      value =
          simp to_z-of_z
          (rest_left y rate c.loop-j.j-iterator (to_z w128 c.loop-j.left-bits) c.in-Some.j
          c.next.new.self c.in-Some.ensures.steps c.less_row-left.result e
          ∙ c.loop-j.invariant.value);
      steps =
          simp to_z-of_z
          (rest_in_range y rate c.loop-j.j-iterator (to_z w128 c.loop-j.left-bits) c.in-Some.j
          c.next.new.self c.in-Some.ensures.steps c.loop-j.invariant.steps c.less_row-left.result
          e);
    }

pub returns : goal.returns
returns c =
    all_left (entry c.args.ys.now) (entry c.args.rates.now) c.loop-j.j-iterator _ _
    c.in-None.ensures.steps.0 c.loop-j.invariant.value
