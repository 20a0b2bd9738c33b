use Rattle.std.proofs.Common.{◌≡◌, ◌<◌, ◌∙◌, sym, ap, subst, true, length}
use Rattle.report_rules.specs.problem_rules.Problem.{Problem}
use Rattle.report_rules.specs.number_sets.Sets.{has}
use Rattle.report_rules.specs.flow_rules.Net.{net_of, materials_of}
use Rattle.report_rules.specs.tree_rules.Claim.{IsFeasible}
use Rattle.report_rules.specs.Number.{Number, plus, sum_from}
use Rattle.report_rules.specs.Amounts.{cost, part_of}
use Rattle.report_amounts.proofs.Walk.{all_within, next_within, rest_within}
use Rattle.report_amounts.proofs.Sums.{next_sum, last_sum}
use Rattle.report_amounts.proofs.Known.{material_known}
use Rattle.report_amounts.proofs.costs.cost_sum.Goals as goal

pub materials_in-j-items-requires : goal.materials_in-j-items-requires
materials_in-j-items-requires c = record { known = c.requires.feasible.structure.s3 }

pub loop-j-init : goal.loop-j-init
loop-j-init c =
    let p = c.args.site.now in
    let w = c.args.network.now in
    let js = materials_of (net_of p) (has w.units) in
    let are : c.into_iter-j-iterator.result ≡ js =
    c.into_iter-j-iterator.ensures.into_iter_gives.0 ∙ c.materials_in-j-items.ensures in
    record {
      within = all_within c.into_iter-j-iterator.result js are;
      sum = λ i. sum_from (c.nothing-sum.ensures i) (λ j. part_of c.args.part (cost p w j)) (are i);
    }

pub returns : goal.returns
returns c =
    let p = c.args.site.now in
    let w = c.args.network.now in
    last_sum (λ j. part_of c.args.part (cost p w j)) c.loop-j.j-iterator c.loop-j.sum _
    c.in-None.ensures.steps.0 c.loop-j.invariant.sum

pub cost-requires-clause-feasible : goal.cost-requires-clause-feasible
cost-requires-clause-feasible c =
    subst (λ (p : Problem). IsFeasible p c.args.network.now) (sym c.problem.ensures.same)
    c.requires.feasible

pub cost-requires-clause-material : goal.cost-requires-clause-material
cost-requires-clause-material c =
    let s = has c.args.network.now.units in
    subst (λ (p : Problem). has (materials_of (net_of p) s) c.in-Some.j ≡ true)
    (sym c.problem.ensures.same)
    (next_within (has (materials_of (net_of c.args.site.now) s)) c.loop-j.j-iterator c.next.new.self
    c.in-Some.j c.in-Some.ensures.steps c.loop-j.invariant.within)

pub cost-requires-clause-known : goal.cost-requires-clause-known
cost-requires-clause-known c =
    let p = c.args.site.now in
    let w = c.args.network.now in
    subst (λ (p : Problem). c.in-Some.j < length p.materials) (sym c.problem.ensures.same)
    (material_known p w c.in-Some.j
    (next_within (has (materials_of (net_of p) (has w.units))) c.loop-j.j-iterator
    c.next.new.self c.in-Some.j c.in-Some.ensures.steps c.loop-j.invariant.within))

pub loop-j-preserved : goal.loop-j-preserved
loop-j-preserved c =
    let p = c.args.site.now in
    let w = c.args.network.now in
    record {
      within =
          rest_within (has (materials_of (net_of p) (has w.units))) c.loop-j.j-iterator
          c.next.new.self c.in-Some.j c.in-Some.ensures.steps c.loop-j.invariant.within;
      sum =
          next_sum (λ j. part_of c.args.part (cost p w j)) c.loop-j.j-iterator c.next.new.self
          c.in-Some.j c.loop-j.sum c.plus-sum.result _ c.in-Some.ensures.steps
          (c.plus-sum.ensures
          ∙ ap (λ (n : Number). plus c.loop-j.sum n)
          (c.part_of.ensures
          ∙ (λ i. part_of c.args.part
          ((c.cost.ensures ∙ ap (λ (p : Problem). cost p w c.in-Some.j) c.problem.ensures.same)
          i)))) c.loop-j.invariant.sum;
    }
