use Rattle.std.proofs.Common.{rules, SFits, ◌++◌}
use Rattle.std.specs.Int.{w128}
use Rattle.std.proofs.lemmas.Int.{to_z-of_z}
use Rattle.structure_list.proofs.flow_rules.Cited.{IsFirstPast-left}
use Rattle.flow_program.specs.Entry.{entry}
use Rattle.structure_list.specs.flow_rules.ChargeSteps.{sum_steps}
use Rattle.charges.specs.Bends.{as_owed, knees_in}
use Rattle.charges.specs.Columns.{owed_in, owed_steps, bent_steps, charge_in}
use Rattle.charges.proofs.ColumnLemmas.{bent_past, part_past, column_fit, column_count}
use Rattle.charges.proofs.ColumnLemmas.{column_value}
use Rattle.charges.proofs.unit.with_unit.Goals as goal

pub returns-in-Err-clause-past : goal.returns-in-Err-clause-past
returns-in-Err-clause-past c =
    let t = c.args.terms in
    let m = c.args.multipliers.now in
    let ks = knees_in c.args.knees.now c.args.knees.now.set in
    let o = owed_in t m.d (entry m.ys) (entry c.args.rates.now)
    c.args.materials in
    IsFirstPast-left
    (owed_steps t m.d (entry m.ys) (entry c.args.rates.now)
    c.args.materials)
    (bent_steps t.sizes.low t.sizes.high ks o
    ++ sum_steps t.is_in (charge_in t.sizes.low t.sizes.high ks o) c.args.from.sum) _
    c.in-Err.ensures.past

pub returns-in-Err-least_of-clause-past : goal.returns-in-Err-least_of-clause-past
returns-in-Err-least_of-clause-past c =
    bent_past c.args.terms (knees_in c.args.knees.now c.args.knees.now.set) c.args.multipliers.now.d
    (entry c.args.multipliers.now.ys) (entry c.args.rates.now) c.args.materials c.args.from.sum
    c.args.from.at c.in-Ok.at (as_owed c.in-Ok.owed)
    c.in-Ok.ensures.value c.in-Ok.ensures.in_range c.in-Ok.ensures.count
    c.in-Err-least_of.past.at c.in-Err-least_of.ensures.from_start c.in-Err-least_of.ensures.past

pub returns-in-Err-with_part-clause-past : goal.returns-in-Err-with_part-clause-past
returns-in-Err-with_part-clause-past c =
    let fs : SFits w128 c.args.from.sum = search rules in
    let ps : SFits w128 c.in-Ok-least_of.part.sum = search rules in
    part_past c.args.terms (knees_in c.args.knees.now c.args.knees.now.set) c.args.multipliers.now.d
    (entry c.args.multipliers.now.ys) (entry c.args.rates.now) c.args.materials c.args.from.sum
    c.args.from.at c.in-Ok.at (as_owed c.in-Ok.owed)
    c.in-Ok.ensures.value c.in-Ok.ensures.in_range c.in-Ok.ensures.count
    c.in-Ok-least_of.part.sum c.in-Ok-least_of.part.at c.in-Ok-least_of.ensures.value
    c.in-Ok-least_of.ensures.in_range c.in-Ok-least_of.ensures.count
    c.in-Err-with_part.past.at c.in-Err-with_part.ensures.from_start
    (simp to_z-of_z at c.in-Err-with_part.ensures.past)

pub returns-in-Ok-with_part-clause-value : goal.returns-in-Ok-with_part-clause-value
returns-in-Ok-with_part-clause-value c =
    let fs : SFits w128 c.args.from.sum = search rules in
    let ps : SFits w128 c.in-Ok-least_of.part.sum = search rules in
    column_value c.args.terms (knees_in c.args.knees.now c.args.knees.now.set)
    c.args.multipliers.now.d (entry c.args.multipliers.now.ys) (entry c.args.rates.now)
    c.args.materials c.args.from.sum c.args.from.at c.in-Ok.at (as_owed c.in-Ok.owed)
    c.in-Ok.ensures.value c.in-Ok.ensures.in_range c.in-Ok.ensures.count
    c.in-Ok-least_of.part.sum c.in-Ok-least_of.part.at c.in-Ok-least_of.ensures.value
    c.in-Ok-least_of.ensures.in_range c.in-Ok-least_of.ensures.count
    c.in-Ok-with_part.to.sum (simp to_z-of_z at c.in-Ok-with_part.ensures.value)

pub returns-in-Ok-with_part-clause-in_range : goal.returns-in-Ok-with_part-clause-in_range
returns-in-Ok-with_part-clause-in_range c =
    let fs : SFits w128 c.args.from.sum = search rules in
    let ps : SFits w128 c.in-Ok-least_of.part.sum = search rules in
    column_fit c.args.terms (knees_in c.args.knees.now c.args.knees.now.set)
    c.args.multipliers.now.d (entry c.args.multipliers.now.ys) (entry c.args.rates.now)
    c.args.materials c.args.from.sum c.args.from.at c.in-Ok.at (as_owed c.in-Ok.owed)
    c.in-Ok.ensures.value c.in-Ok.ensures.in_range c.in-Ok.ensures.count
    c.in-Ok-least_of.part.sum c.in-Ok-least_of.part.at c.in-Ok-least_of.ensures.value
    c.in-Ok-least_of.ensures.in_range c.in-Ok-least_of.ensures.count
    (simp to_z-of_z at c.in-Ok-with_part.ensures.in_range)

pub returns-in-Ok-with_part-clause-count : goal.returns-in-Ok-with_part-clause-count
returns-in-Ok-with_part-clause-count c =
    let fs : SFits w128 c.args.from.sum = search rules in
    let ps : SFits w128 c.in-Ok-least_of.part.sum = search rules in
    column_count c.args.terms (knees_in c.args.knees.now c.args.knees.now.set)
    c.args.multipliers.now.d (entry c.args.multipliers.now.ys) (entry c.args.rates.now)
    c.args.materials c.args.from.sum c.args.from.at c.in-Ok.at (as_owed c.in-Ok.owed)
    c.in-Ok.ensures.value c.in-Ok.ensures.in_range c.in-Ok.ensures.count
    c.in-Ok-least_of.part.sum c.in-Ok-least_of.part.at c.in-Ok-least_of.ensures.value
    c.in-Ok-least_of.ensures.in_range c.in-Ok-least_of.ensures.count
    c.in-Ok-with_part.to.at (simp to_z-of_z at c.in-Ok-with_part.ensures.count)
