use Rattle.std.proofs.Common.{◌∙◌, ap, ◌*ℤ◌, ℤ, pos, SFits, rules}
use Rattle.std.specs.Int.{int_max, w64, w128}
use Rattle.std.proofs.lemmas.Int.{to_z-of_z}
use Rattle.flow_program.specs.Entry.{entry}
use Rattle.charges.proofs.made.make_most.Goals as goal

pub returns-clause-value : goal.returns-clause-value
returns-clause-value c =
    let r : SFits w64 c.rate_of.result = search rules in
    let s : SFits w64 c.make_rate_of.result = search rules in
    let m : SFits w64 c.most_of.result = search rules in
    let v = simp to_z-of_z at c.times.ensures.value in
    let u = simp to_z-of_z at c.make_rate_of.ensures.value in
    let t : SFits w128 c.times.result = search rules in
    simp to_z-of_z
    (v ∙ (λ i. u i *ℤ c.most_of.ensures i)
    ∙ ap (λ (z : ℤ). int_max (pos 0) z *ℤ entry c.args.facts.now.most c.args.u)
    c.rate_of.ensures.value)
