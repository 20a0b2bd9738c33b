use Rattle.std.proofs.Common.{◌≡◌, ◌∙◌, rules, SFits, pos, ◌+ℤ◌, ◌*ℤ◌}
use Rattle.std.specs.Prelude.{unsigned_abs}
use Rattle.std.specs.Int.{w128, int_div_euclid, int_rem_euclid}
use Rattle.std.proofs.lemmas.Int.{to_z-of_z}
use Rattle.exact_numbers.proofs.NumberLemmas.{quotient_whole}
use Rattle.exact_numbers.proofs.number.divided.Goals as goal

pub returns-clause-quotient : goal.returns-clause-quotient
returns-clause-quotient c =
    let num = c.ranges.num in
    let den = c.ranges.den in
    let q : SFits w128 c.div_euclid.result = search rules in
    let r : SFits w128 c.rem_euclid.result = search rules in
    let quotient : c.div_euclid.result ≡ int_div_euclid c.args.num c.args.den =
    simp to_z-of_z at c.div_euclid.ensures in
    let rest : c.rem_euclid.result ≡ int_rem_euclid c.args.num c.args.den =
    simp to_z-of_z at c.rem_euclid.ensures.value in
    simp to_z-of_z ((λ i. quotient i *ℤ c.args.den +ℤ pos (unsigned_abs (rest i)))
    ∙ quotient_whole c.args.num c.args.den c.requires)
