use Rattle.std.proofs.Common.{◌∙◌, ap, SFits, rules, to_z, get_or, pos, ℤ, ◌-ℤ◌, ◌*ℤ◌}
use Rattle.std.specs.Prelude.{int_div}
use Rattle.std.specs.Int.{w64, w128}
use Rattle.std.proofs.lemmas.Int.{to_z-of_z}
use Rattle.flow_program.specs.Entry.{entry}
use Rattle.flow_program.proofs.Cited.{next_of}
use Rattle.scaled_flows.specs.Divisors.{rate_divisor}
use Rattle.scaled_flows.proofs.SumLemmas.{rest_more}
use Rattle.scaled_flows.proofs.units.price_of.Goals as goal

pub loop-j-preserved : goal.loop-j-preserved
loop-j-preserved c = record {
  is_set =
      (next_of 256 c.loop-j.j-iterator c.in-Some.j c.next.new.self c.loop-j.invariant.is_set
      c.in-Some.ensures.steps).set;
  so_far = let cost = c.ranges.cost in
      let y : SFits w128 (get_or c.args.y_at.now c.in-Some.j (pos 0)) = search rules in
      let q : SFits w64 (get_or c.args.rates.now c.in-Some.j (pos 0)) = search rules in
      let g : SFits w64 c.rate.result = search rules in
      let r : SFits w128 c.scaled_rate-rate.result = search rules in
      let p : SFits w128 c.in_ok-paid.paid = search rules in
      let t : SFits w128 c.in_ok-rest.rest = search rules in
      let h = simp to_z-of_z at c.in_ok-paid.ensures in
      let k = simp to_z-of_z at c.in_ok-rest.ensures in
      let e = simp to_z-of_z at c.scaled_rate-rate.ensures in
      simp to_z-of_z
      (rest_more 256
      (λ j. entry c.args.y_at.now j *ℤ int_div (entry c.args.rates.now j)
      (rate_divisor c.args.scales.now j)) c.args.materials c.args.cost
      (to_z w128 c.loop-j.rest-bits) c.loop-j.j-iterator c.in-Some.j c.next.new.self
      (next_of 256 c.loop-j.j-iterator c.in-Some.j c.next.new.self c.loop-j.invariant.is_set
      c.in-Some.ensures.steps)
      c.in_ok-rest.rest
      (k.1 ∙ ap (λ (z : ℤ). to_z w128 c.loop-j.rest-bits -ℤ z)
      (h.1 ∙ ap (λ (z : ℤ). entry c.args.y_at.now c.in-Some.j *ℤ z)
      (e ∙ ap (λ (z : ℤ). int_div (entry c.args.rates.now c.in-Some.j) z) c.rate.ensures)))
      (simp to_z-of_z at c.loop-j.invariant.so_far));
}
