use Rattle.std.proofs.Common.{◌≡◌, ℕ, ◌+◌, ◌-◌, arith, rules, SFits, ℤ, ◌+ℤ◌, ◌-ℤ◌, ◌*ℤ◌}
use Rattle.std.specs.Int.{w128}
use Rattle.std.proofs.lemmas.Int.{to_z-of_z}
use Rattle.structure_list.specs.integer_laws.Range.{InRange}
use Rattle.structure_list.specs.flow_rules.Steps.{IsFirstPast}
use Rattle.charges.specs.Bends.{three_steps}
use Rattle.charges.proofs.bending.with_knee.Goals as goal

third : (part at each once product : ℤ) (start : ℕ) → InRange (part *ℤ at) → product ≡ part
    *ℤ at → InRange (once -ℤ product) → ¬ InRange (each +ℤ part)
    → IsFirstPast (three_steps part at each once) (start + 2 - start)
third part at each once product start f p g n =
    let e : start + 2 - start ≡ 2 = omega arith in
    rw e (f, (rw p at g, n))

pub returns-in-None-clause-past : goal.returns-in-None-clause-past
returns-in-None-clause-past c =
    let counted = c.ranges.counted in
    let at = c.ranges.at in
    let each : SFits w128 c.args.owed.each = search rules in
    let once : SFits w128 c.args.owed.once = search rules in
    let p : SFits w128 c.in-Some.product = search rules in
    let h = simp to_z-of_z at c.in-Some.ensures in
    let g = simp to_z-of_z at c.in-Some-checked_difference.ensures in
    let n = simp to_z-of_z at c.in-None.ensures in
    third c.args.counted c.args.at c.args.owed.each c.args.owed.once c.in-Some.product c.args.start
    h.0 h.1 g.0 n
