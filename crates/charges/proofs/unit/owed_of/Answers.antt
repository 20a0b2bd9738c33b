use Rattle.std.proofs.Common.{rules, SFits}
use Rattle.std.specs.Int.{w128}
use Rattle.std.proofs.lemmas.Int.{to_z-of_z}
use Rattle.structure_list.proofs.flow_rules.Cited.{IsFirstPast-left, AreInRange-append}
use Rattle.flow_program.specs.Entry.{entry}
use Rattle.charges.specs.Columns.{each_steps, once_steps}
use Rattle.charges.proofs.UnitLemmas.{once_past, owed_count}
use Rattle.charges.proofs.unit.owed_of.Goals as goal

pub returns-in-Err-clause-past : goal.returns-in-Err-clause-past
returns-in-Err-clause-past c =
    let m = c.args.multipliers.now in
    IsFirstPast-left
    (each_steps c.args.terms m.d (entry m.ys) (entry c.args.rates.now) c.args.materials)
    (once_steps c.args.terms m.d) _ c.in-Err.ensures.past

pub returns-in-Err-once_of-clause-past : goal.returns-in-Err-once_of-clause-past
returns-in-Err-once_of-clause-past c =
    let m = c.args.multipliers.now in
    let t = c.args.terms in
    let d : SFits w128 m.d = search rules in
    let fx : SFits w128 t.costs.fixed = search rules in
    let pd : SFits w128 t.paid = search rules in
    once_past t m.d (entry m.ys) (entry c.args.rates.now) c.args.materials c.args.start
    c.in-Ok.left.at c.in-Ok.ensures.count c.in-Ok.ensures.in_range
    c.in-Err-once_of.past.at c.in-Err-once_of.ensures.from_start
    (simp to_z-of_z at c.in-Err-once_of.ensures.past)

pub returns-in-Ok-once_of-clause-value : goal.returns-in-Ok-once_of-clause-value
returns-in-Ok-once_of-clause-value c =
    let m = c.args.multipliers.now in
    let t = c.args.terms in
    let d : SFits w128 m.d = search rules in
    let fx : SFits w128 t.costs.fixed = search rules in
    let pd : SFits w128 t.paid = search rules in
    let r : SFits w128 c.in-Ok.left.sum = search rules in
    let o : SFits w128 c.in-Ok-once_of.once = search rules in
    let v = simp to_z-of_z at c.in-Ok-once_of.ensures.value in
    simp to_z-of_z (λ i. record { each = c.in-Ok.ensures.value i; once = v i })

pub returns-in-Ok-once_of-clause-in_range : goal.returns-in-Ok-once_of-clause-in_range
returns-in-Ok-once_of-clause-in_range c =
    let m = c.args.multipliers.now in
    let t = c.args.terms in
    let d : SFits w128 m.d = search rules in
    let fx : SFits w128 t.costs.fixed = search rules in
    let pd : SFits w128 t.paid = search rules in
    AreInRange-append
    (each_steps t m.d (entry m.ys) (entry c.args.rates.now) c.args.materials)
    (once_steps t m.d) c.in-Ok.ensures.in_range
    (simp to_z-of_z at c.in-Ok-once_of.ensures.in_range)

pub returns-in-Ok-once_of-clause-count : goal.returns-in-Ok-once_of-clause-count
returns-in-Ok-once_of-clause-count c =
    let m = c.args.multipliers.now in
    owed_count c.args.terms m.d (entry m.ys) (entry c.args.rates.now) c.args.materials
    c.args.start c.in-Ok.left.at c.in-Ok.ensures.count c.in-Ok.ensures.in_range
