use Rattle.std.proofs.Common.{◌∙◌, ap, SFits, rules, to_z, get_or, pos, ℤ, ◌+ℤ◌, ◌*ℤ◌}
use Rattle.std.specs.Prelude.{int_div}
use Rattle.std.specs.Int.{w64, w128}
use Rattle.std.proofs.lemmas.Int.{to_z-of_z}
use Rattle.tree_rules.specs.problem_rules.Problem.{rate_of}
use Rattle.flow_program.specs.Entry.{entry}
use Rattle.flow_program.proofs.Cited.{next_of, head_had}
use Rattle.scaled_flows.proofs.SumLemmas.{sum_more}
use Rattle.scaled_flows.proofs.rows.balance_of.Goals as goal

pub rate_at-requires : goal.rate_at-requires
rate_at-requires c =
    c.requires.known c.in-Some.u
    (c.loop-u.invariant.so_far.within c.in-Some.u
    (head_had c.loop-u.u-iterator c.in-Some.u c.next.new.self c.in-Some.ensures.steps))

pub loop-u-preserved : goal.loop-u-preserved
loop-u-preserved c = record {
  is_set =
      (next_of 128 c.loop-u.u-iterator c.in-Some.u c.next.new.self c.loop-u.invariant.is_set
      c.in-Some.ensures.steps).set;
  so_far = let divisor = c.ranges.divisor in
      let q : SFits w64 c.rate_at.result = search rules in
      let r : SFits w128 c.scaled_rate-rate.result = search rules in
      let sz : SFits w128 (get_or c.args.size_at.now c.in-Some.u (pos 0)) = search rules in
      let m : SFits w128 c.in_ok-moved.moved = search rules in
      let t : SFits w128 c.in_ok-sum.sum = search rules in
      let h = simp to_z-of_z at c.in_ok-moved.ensures in
      let k = simp to_z-of_z at c.in_ok-sum.ensures in
      let e = simp to_z-of_z at c.scaled_rate-rate.ensures in
      simp to_z-of_z
      (sum_more 128
      (λ i. int_div (rate_of c.args.problem.now c.args.j i) c.args.divisor *ℤ entry
      c.args.size_at.now i) c.args.units (to_z w128 c.loop-u.sum-bits) c.loop-u.u-iterator
      c.in-Some.u c.next.new.self
      (next_of 128 c.loop-u.u-iterator c.in-Some.u c.next.new.self c.loop-u.invariant.is_set
      c.in-Some.ensures.steps)
      c.in_ok-sum.sum
      (k.1 ∙ ap (λ (z : ℤ). to_z w128 c.loop-u.sum-bits +ℤ z)
      (h.1 ∙ ap (λ (z : ℤ). z *ℤ entry c.args.size_at.now c.in-Some.u)
      (e ∙ ap (λ (z : ℤ). int_div z c.args.divisor) c.rate_at.ensures)))
      (simp to_z-of_z at c.loop-u.invariant.so_far));
}
