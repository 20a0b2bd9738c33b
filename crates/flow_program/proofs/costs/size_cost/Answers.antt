use Rattle.std.proofs.Common.{◌∙◌, sym, ap, SFits, rules, to_z, arith, ℤ, pos, get_or, ◌-ℤ◌, ◌*ℤ◌}
use Rattle.std.specs.Int.{w64, w128}
use Rattle.pgraph.specs.flow_rules.Net.{net_of}
use Rattle.std.proofs.lemmas.Int.{to_z-of_z}
use Rattle.pgraph.proofs.number_sets.Cited.{first_none}
use Rattle.flow_program.proofs.SizeLemmas.{fits_small, size_sub}
use Rattle.flow_program.proofs.WalkLemmas.{next_of, head_had, IsNext, is_next, shorter, has_next}
use Rattle.flow_program.proofs.CostLemmas.{cost_more, cost_so_far_small, cost_ends}
use Rattle.flow_program.proofs.costs.size_cost.Goals as goal

pub returns-clause-value : goal.returns-clause-value
returns-clause-value c =
    cost_ends c.args.problem.now c.args.u c.args.materials c.args.rates.now _ c.loop-j.j-iterator
    c.into_iter-j-iterator.ensures.into_iter_gives.1 c.requires.rates c.in-None.ensures.steps.0
    c.loop-j.invariant.so_far

pub returns-clause-small : goal.returns-clause-small
returns-clause-small c =
    cost_so_far_small c.args.problem.now c.args.u c.args.materials _ c.loop-j.j-iterator
    c.into_iter-j-iterator.ensures.into_iter_gives.1 c.loop-j.invariant.so_far

pub overflow_sub-cost : goal.overflow_sub-cost
overflow_sub-cost c =
    let w : SFits w128 c.worth-cost.result = search rules in
    let small =
    cost_so_far_small c.args.problem.now c.args.u c.args.materials
    (to_z w128 c.loop-j.cost-bits) c.loop-j.j-iterator
    c.into_iter-j-iterator.ensures.into_iter_gives.1 c.loop-j.invariant.so_far in
    let both =
    size_sub (to_z w128 c.loop-j.cost-bits) c.worth-cost.result _ _ small
    c.worth-cost.ensures.small in
    simp to_z-of_z (fits_small (to_z w128 c.loop-j.cost-bits -ℤ c.worth-cost.result) (omega arith))

pub loop-j-preserved : goal.loop-j-preserved
loop-j-preserved c = record {
  is_set =
      (next_of 256 c.loop-j.j-iterator c.in-Some.j c.next.new.self c.loop-j.invariant.is_set
      c.in-Some.ensures.steps).set;
  so_far = let next : IsNext 256 c.loop-j.j-iterator c.in-Some.j c.next.new.self
      = next_of 256 c.loop-j.j-iterator c.in-Some.j c.next.new.self c.loop-j.invariant.is_set
      c.in-Some.ensures.steps in
      let there =
      c.loop-j.invariant.so_far.within c.in-Some.j
      (has_next 256 c.loop-j.j-iterator c.in-Some.j c.next.new.self next) in
      let w : SFits w128 c.worth-cost.result = search rules in
      let r : SFits w64 (get_or c.args.rates.now c.in-Some.j (pos 0)) = search rules in
      let value = simp to_z-of_z at c.worth-cost.ensures.value in
      let small =
      cost_so_far_small c.args.problem.now c.args.u c.args.materials
      (to_z w128 c.loop-j.cost-bits) c.loop-j.j-iterator
      c.into_iter-j-iterator.ensures.into_iter_gives.1 c.loop-j.invariant.so_far in
      let both =
      size_sub (to_z w128 c.loop-j.cost-bits) c.worth-cost.result _ _ small
      c.worth-cost.ensures.small in
      let f : SFits w128 (to_z w128 c.loop-j.cost-bits -ℤ c.worth-cost.result) =
      fits_small (to_z w128 c.loop-j.cost-bits -ℤ c.worth-cost.result) (omega arith) in
      simp to_z-of_z
      (cost_more c.args.problem.now c.args.u c.args.materials (to_z w128 c.loop-j.cost-bits)
      c.loop-j.j-iterator c.in-Some.j c.next.new.self c.worth-cost.result next
      (value ∙ ap (λ (z : ℤ). (net_of c.args.problem.now).price c.in-Some.j *ℤ z)
      (c.requires.rates.rate c.in-Some.j there)) c.worth-cost.ensures.small
      c.loop-j.invariant.so_far);
}
