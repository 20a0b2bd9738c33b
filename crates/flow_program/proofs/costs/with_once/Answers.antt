use Rattle.std.proofs.Common.{SFits, rules, ap, arith, ℤ, ◌+ℤ◌}
use Rattle.std.specs.Int.{w128}
use Rattle.std.proofs.lemmas.Int.{to_z-of_z}
use Rattle.flow_program.proofs.SizeLemmas.{fits_small, size_add}
use Rattle.flow_program.proofs.costs.with_once.Goals as goal

pub returns-clause-value : goal.returns-clause-value
returns-clause-value c =
    let years = c.ranges.years in
    let yearly = c.ranges.yearly in
    let once = c.ranges.once in
    let h = simp to_z-of_z at c.over_years.ensures.value in
    let y : SFits w128 c.over_years.result = search rules in
    let small =
    size_add c.over_years.result c.args.once _ _ c.over_years.ensures.small c.requires.once in
    let w : SFits w128 c.args.once =
    fits_small c.args.once (let l = c.requires.once in omega arith) in
    let f : SFits w128 (c.over_years.result +ℤ c.args.once) =
    fits_small (c.over_years.result +ℤ c.args.once) (omega arith) in
    simp to_z-of_z (ap (λ (z : ℤ). z +ℤ c.args.once) h)
