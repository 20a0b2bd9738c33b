use Rattle.std.proofs.Common.{rules, SFits}
use Rattle.std.specs.Int.{w128}
use Rattle.std.proofs.lemmas.Int.{to_z-of_z}
use Rattle.flow_program.specs.Entry.{entry}
use Rattle.charges.proofs.UnitLemmas.{reduced_past, used_past, each_fit, each_count, each_value}
use Rattle.charges.proofs.unit.each_of.Goals as goal

pub returns-in-Err-clause-past : goal.returns-in-Err-clause-past
returns-in-Err-clause-past c =
    let m = c.args.multipliers.now in
    let t = c.args.terms in
    let d : SFits w128 m.d = search rules in
    let s : SFits w128 t.costs.size = search rules in
    let k : SFits w128 c.in-Some.cost = search rules in
    let h = simp to_z-of_z at c.in-Some.ensures in
    reduced_past t m.d (entry m.ys) (entry c.args.rates.now) c.args.materials c.in-Some.cost
    c.args.start h.0 h.1 c.in-Err.past.at c.in-Err.ensures.from_start
    (simp to_z-of_z at c.in-Err.ensures.past)

pub returns-in-Err-less_use-clause-past : goal.returns-in-Err-less_use-clause-past
returns-in-Err-less_use-clause-past c =
    let m = c.args.multipliers.now in
    let t = c.args.terms in
    let d : SFits w128 m.d = search rules in
    let s : SFits w128 t.costs.size = search rules in
    let w : SFits w128 t.used.worth = search rules in
    let q : SFits w128 t.used.rate = search rules in
    let k : SFits w128 c.in-Some.cost = search rules in
    let r : SFits w128 c.in-Ok.rest = search rules in
    let h = simp to_z-of_z at c.in-Some.ensures in
    used_past t m.d (entry m.ys) (entry c.args.rates.now) c.args.materials c.in-Some.cost
    c.args.start h.0 h.1 c.in-Ok.rest c.in-Ok.at
    (simp to_z-of_z at c.in-Ok.ensures.value) (simp to_z-of_z at c.in-Ok.ensures.count)
    (simp to_z-of_z at c.in-Ok.ensures.in_range)
    c.in-Err-less_use.past.at c.in-Err-less_use.ensures.from_start
    (simp to_z-of_z at c.in-Err-less_use.ensures.past)

pub returns-in-Ok-less_use-clause-value : goal.returns-in-Ok-less_use-clause-value
returns-in-Ok-less_use-clause-value c =
    let m = c.args.multipliers.now in
    let t = c.args.terms in
    let d : SFits w128 m.d = search rules in
    let s : SFits w128 t.costs.size = search rules in
    let w : SFits w128 t.used.worth = search rules in
    let q : SFits w128 t.used.rate = search rules in
    let k : SFits w128 c.in-Some.cost = search rules in
    let r : SFits w128 c.in-Ok.rest = search rules in
    let h = simp to_z-of_z at c.in-Some.ensures in
    each_value t m.d (entry m.ys) (entry c.args.rates.now) c.args.materials c.in-Some.cost
    c.args.start h.0 h.1 c.in-Ok.rest c.in-Ok.at
    (simp to_z-of_z at c.in-Ok.ensures.value) (simp to_z-of_z at c.in-Ok.ensures.count)
    (simp to_z-of_z at c.in-Ok.ensures.in_range)
    c.in-Ok-less_use.to.sum (simp to_z-of_z at c.in-Ok-less_use.ensures.value)

pub returns-in-Ok-less_use-clause-in_range : goal.returns-in-Ok-less_use-clause-in_range
returns-in-Ok-less_use-clause-in_range c =
    let m = c.args.multipliers.now in
    let t = c.args.terms in
    let d : SFits w128 m.d = search rules in
    let s : SFits w128 t.costs.size = search rules in
    let w : SFits w128 t.used.worth = search rules in
    let q : SFits w128 t.used.rate = search rules in
    let k : SFits w128 c.in-Some.cost = search rules in
    let r : SFits w128 c.in-Ok.rest = search rules in
    let h = simp to_z-of_z at c.in-Some.ensures in
    each_fit t m.d (entry m.ys) (entry c.args.rates.now) c.args.materials c.in-Some.cost
    c.args.start h.0 h.1 c.in-Ok.rest c.in-Ok.at
    (simp to_z-of_z at c.in-Ok.ensures.value) (simp to_z-of_z at c.in-Ok.ensures.count)
    (simp to_z-of_z at c.in-Ok.ensures.in_range)
    (simp to_z-of_z at c.in-Ok-less_use.ensures.in_range)

pub returns-in-Ok-less_use-clause-count : goal.returns-in-Ok-less_use-clause-count
returns-in-Ok-less_use-clause-count c =
    let m = c.args.multipliers.now in
    let t = c.args.terms in
    let d : SFits w128 m.d = search rules in
    let s : SFits w128 t.costs.size = search rules in
    let w : SFits w128 t.used.worth = search rules in
    let q : SFits w128 t.used.rate = search rules in
    let k : SFits w128 c.in-Some.cost = search rules in
    let r : SFits w128 c.in-Ok.rest = search rules in
    let h = simp to_z-of_z at c.in-Some.ensures in
    each_count t m.d (entry m.ys) (entry c.args.rates.now) c.args.materials c.in-Some.cost
    c.args.start h.0 h.1 c.in-Ok.rest c.in-Ok.at
    (simp to_z-of_z at c.in-Ok.ensures.value) (simp to_z-of_z at c.in-Ok.ensures.count)
    (simp to_z-of_z at c.in-Ok.ensures.in_range)
    c.in-Ok-less_use.to.at (simp to_z-of_z at c.in-Ok-less_use.ensures.count)
