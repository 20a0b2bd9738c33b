use Rattle.std.proofs.Common.{◌∙◌, ◌<◌, ◌+ℤ◌, ap, refl, SFits, rules, get_or, pos, map, length}
use Rattle.std.proofs.Common.{cond, Bool}
use Rattle.std.specs.Int.{w128}
use Rattle.std.proofs.lemmas.Int.{to_z-of_z}
use Rattle.structure_list.proofs.flow_rules.Cited.{IsFirstPast-left}
use Rattle.flow_program.specs.Entry.{entry}
use Rattle.structure_list.specs.flow_rules.ChargeSteps.{beside_steps}
use Rattle.structure_list.specs.pgraph.CoversView.{cover_of}
use Rattle.charges.proofs.PaidLemmas.{beside_past, beside_fit, beside_value}
use Rattle.charges.proofs.paid.with_cover.Goals as goal

pub returns-in-Err-clause-past : goal.returns-in-Err-clause-past
returns-in-Err-clause-past c =
    let w : SFits w128 c.args.cover.now.weight = search rules in
    let b = entry c.args.before.now.to in
    IsFirstPast-left (map (λ i. b i +ℤ c.args.cover.now.weight) c.args.cover.now.units)
    (beside_steps b c.args.cover.now.weight c.args.cover.now.beside) _
    (simp to_z-of_z at c.in-Err.ensures.past)

pub returns-in-None-checked_difference-clause-past :
    goal.returns-in-None-checked_difference-clause-past
returns-in-None-checked_difference-clause-past c =
    let w : SFits w128 c.args.cover.now.weight = search rules in
    let s : SFits w128 (get_or c.args.before.now.to c.in-Some.u (pos 0)) = search rules in
    beside_past (entry c.args.before.now.to) (cover_of c.args.cover.now)
    c.args.before.now.at c.in-Ok.with.at c.in-Ok.with.to
    (simp to_z-of_z at c.in-Ok.ensures.value) (simp to_z-of_z at c.in-Ok.ensures.in_range)
    (simp to_z-of_z at c.in-Ok.ensures.count)
    c.in-Some.u c.in-Some.is (get_or c.args.before.now.to c.in-Some.u (pos 0)) refl
    (simp to_z-of_z at c.in-None-checked_difference.ensures)

pub returns-in-Some-checked_difference-clause-value :
    goal.returns-in-Some-checked_difference-clause-value
returns-in-Some-checked_difference-clause-value c =
    let w : SFits w128 c.args.cover.now.weight = search rules in
    let s : SFits w128 (get_or c.args.before.now.to c.in-Some.u (pos 0)) = search rules in
    let e : SFits w128 c.either.result = search rules in
    let m : SFits w128 c.in-Some-checked_difference.less = search rules in
    let l : c.in-Some.u < length c.in-Ok.with.to = search rules in
    let h = simp to_z-of_z at c.in-Some-checked_difference.ensures in
    let k = simp to_z-of_z at c.either.ensures in
    simp to_z-of_z
    (beside_value (entry c.args.before.now.to) (cover_of c.args.cover.now)
    c.args.before.now.at c.in-Ok.with.at c.in-Ok.with.to
    (simp to_z-of_z at c.in-Ok.ensures.value) (simp to_z-of_z at c.in-Ok.ensures.in_range)
    (simp to_z-of_z at c.in-Ok.ensures.count)
    c.in-Some.u c.in-Some.is (get_or c.args.before.now.to c.in-Some.u (pos 0)) refl c.either.result
    c.in-Some-checked_difference.less l h.1
    (k
    ∙ ap
    (λ (b : Bool). cond b (get_or c.args.before.now.to c.in-Some.u (pos 0))
    c.in-Some-checked_difference.less) c.has.ensures))

pub returns-in-Some-checked_difference-clause-in_range :
    goal.returns-in-Some-checked_difference-clause-in_range
returns-in-Some-checked_difference-clause-in_range c =
    let w : SFits w128 c.args.cover.now.weight = search rules in
    let s : SFits w128 (get_or c.args.before.now.to c.in-Some.u (pos 0)) = search rules in
    let m : SFits w128 c.in-Some-checked_difference.less = search rules in
    let h = simp to_z-of_z at c.in-Some-checked_difference.ensures in
    beside_fit (entry c.args.before.now.to) (cover_of c.args.cover.now)
    c.args.before.now.at c.in-Ok.with.at c.in-Ok.with.to
    (simp to_z-of_z at c.in-Ok.ensures.value) (simp to_z-of_z at c.in-Ok.ensures.in_range)
    (simp to_z-of_z at c.in-Ok.ensures.count)
    c.in-Some.u c.in-Some.is (get_or c.args.before.now.to c.in-Some.u (pos 0)) refl h.0
