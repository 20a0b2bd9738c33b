use Rattle.std.proofs.Common.{◌≡◌, ◌∙◌, sym, subst, List, ℕ, pos, SFits, rules, to_z, arith, ◌+ℤ◌}
use Rattle.std.proofs.Common.{◌*ℤ◌}
use Rattle.std.specs.Int.{w64, w128}
use Rattle.std.proofs.lemmas.Int.{to_z-of_z}
use Rattle.report_rules.specs.number_sets.Sets.{has, IsSet}
use Rattle.report_rules.specs.problem_rules.Problem.{rate_of}
use Rattle.report_rules.specs.flow_rules.Net.{net_of}
use Rattle.report_rules.specs.tree_rules.Claim.{size_in}
use Rattle.report_amounts.proofs.FlowLemmas.{IsMadeSoFar, made_begins, made_ends, made_more}
use Rattle.report_amounts.proofs.Walk.{next_within}
use Rattle.report_amounts.proofs.flows.flow_of.Goals as goal

pub loop-u-init : goal.loop-u-init
loop-u-init c =
    let p = c.args.problem.now in
    let w = c.args.network.now in
    let into = c.into_iter-u-iterator.ensures.into_iter_gives in
    let is : IsSet 128 w.units = subst (IsSet 128) c.units-u-items.ensures into.1 in
    subst (λ (left : List ℕ). IsMadeSoFar (net_of p) (size_in w) c.args.j w.units (pos 0) left)
    (sym (into.0 ∙ c.units-u-items.ensures))
    (made_begins (net_of p) (size_in w) c.args.j w.units is c.requires.known c.requires.steps
    (omega arith))

pub returns-clause-value : goal.returns-clause-value
returns-clause-value c =
    let p = c.args.problem.now in
    let w = c.args.network.now in
    let is : IsSet 128 w.units =
    subst (IsSet 128) c.units-u-items.ensures
    c.into_iter-u-iterator.ensures.into_iter_gives.1 in
    made_ends (net_of p) (size_in w) c.args.j w.units (to_z w128 c.loop-u.made-bits)
    c.loop-u.u-iterator is c.requires.known c.in-None.ensures.steps.0 c.loop-u.invariant

pub rate_at-requires : goal.rate_at-requires
rate_at-requires c =
    c.requires.known c.in-Some.u
    (next_within (has c.args.network.now.units) c.loop-u.u-iterator c.next.new.self c.in-Some.u
    c.in-Some.ensures.steps c.loop-u.invariant.within)

pub loop-u-preserved : goal.loop-u-preserved
loop-u-preserved c =
    let p = c.args.problem.now in
    let w = c.args.network.now in
    let m : SFits w128 c.with_unit-made.result = search rules in
    let q : SFits w64 c.rate_at.result = search rules in
    let z : SFits w128 c.size_at.result = search rules in
    let e = simp to_z-of_z at c.with_unit-made.ensures in
    let same : c.with_unit-made.result
    ≡ to_z w128 c.loop-u.made-bits +ℤ rate_of p c.args.j c.in-Some.u *ℤ size_in w c.in-Some.u =
    e ∙ (λ i. to_z w128 c.loop-u.made-bits +ℤ c.rate_at.ensures i *ℤ c.size_at.ensures.value i) in
    simp to_z-of_z
    (subst (λ m. IsMadeSoFar (net_of p) (size_in w) c.args.j w.units m c.next.new.self)
    (sym same)
    (made_more (net_of p) (size_in w) c.args.j w.units (to_z w128 c.loop-u.made-bits)
    c.loop-u.u-iterator c.in-Some.u c.next.new.self c.in-Some.ensures.steps c.loop-u.invariant))
