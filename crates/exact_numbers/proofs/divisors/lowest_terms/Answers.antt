use Rattle.std.proofs.Common.{SFits}
use Rattle.std.specs.Int.{w128}
use Rattle.std.proofs.lemmas.Int.{to_z-of_z}
use Rattle.integer_laws.proofs.Cited.{gcd_positive}
use Rattle.integer_laws.specs.Lowest.{IsLowest}
use Rattle.exact_numbers.proofs.RangeLemmas.{fits_from_range}
use Rattle.exact_numbers.proofs.LowestLemmas.{is_lowest, lowest_coprime, lowest_positive}
use Rattle.exact_numbers.proofs.divisors.lowest_terms.Goals as goal

pub quotient-requires-clause-positive : goal.quotient-requires-clause-positive
quotient-requires-clause-positive c =
    let x = c.ranges.x in
    let y = c.ranges.y in
    let g : SFits w128 c.gcd-common.result = fits_from_range _ c.gcd-common.ensures.in_range in
    simp to_z-of_z
    (gcd_positive c.args.x c.args.y c.gcd-common.result c.requires.positive
    c.gcd-common.ensures.not_negative (simp to_z-of_z at c.gcd-common.ensures.greatest))

pub quotient-requires-clause-divides : goal.quotient-requires-clause-divides
quotient-requires-clause-divides c =
    let x = c.ranges.x in
    let y = c.ranges.y in
    let g : SFits w128 c.gcd-common.result = fits_from_range _ c.gcd-common.ensures.in_range in
    simp to_z-of_z (simp to_z-of_z at c.gcd-common.ensures.greatest.0)

pub quotient-requires-2-clause-divides : goal.quotient-requires-2-clause-divides
quotient-requires-2-clause-divides c =
    let x = c.ranges.x in
    let y = c.ranges.y in
    let g : SFits w128 c.gcd-common.result = fits_from_range _ c.gcd-common.ensures.in_range in
    simp to_z-of_z (simp to_z-of_z at c.gcd-common.ensures.greatest.1)

pub quotient-requires-2-clause-positive : goal.quotient-requires-2-clause-positive
quotient-requires-2-clause-positive c =
    let x = c.ranges.x in
    let y = c.ranges.y in
    let g : SFits w128 c.gcd-common.result = fits_from_range _ c.gcd-common.ensures.in_range in
    simp to_z-of_z
    (gcd_positive c.args.x c.args.y c.gcd-common.result c.requires.positive
    c.gcd-common.ensures.not_negative (simp to_z-of_z at c.gcd-common.ensures.greatest))

pub returns-clause-lowest : goal.returns-clause-lowest
returns-clause-lowest c =
    let x = c.ranges.x in
    let y = c.ranges.y in
    let g : SFits w128 c.gcd-common.result = fits_from_range _ c.gcd-common.ensures.in_range in
    let p : SFits w128 c.quotient.result = fits_from_range _ c.quotient.ensures.in_range in
    let q : SFits w128 c.quotient-2.result = fits_from_range _ c.quotient-2.ensures.in_range in
    simp to_z-of_z
    (is_lowest c.args.x c.args.y c.gcd-common.result c.quotient.result c.quotient-2.result
    c.gcd-common.ensures.not_negative (simp to_z-of_z at c.gcd-common.ensures.greatest)
    (simp to_z-of_z at c.quotient.ensures.exact) (simp to_z-of_z at c.quotient-2.ensures.exact))

pub returns-clause-second_positive : goal.returns-clause-second_positive
returns-clause-second_positive c =
    let x = c.ranges.x in
    let y = c.ranges.y in
    let g : SFits w128 c.gcd-common.result = fits_from_range _ c.gcd-common.ensures.in_range in
    let p : SFits w128 c.quotient.result = fits_from_range _ c.quotient.ensures.in_range in
    let q : SFits w128 c.quotient-2.result = fits_from_range _ c.quotient-2.ensures.in_range in
    let low : IsLowest c.args.x c.args.y c.quotient.result c.quotient-2.result =
    is_lowest c.args.x c.args.y c.gcd-common.result c.quotient.result c.quotient-2.result
    c.gcd-common.ensures.not_negative (simp to_z-of_z at c.gcd-common.ensures.greatest)
    (simp to_z-of_z at c.quotient.ensures.exact)
    (simp to_z-of_z at c.quotient-2.ensures.exact) in
    simp to_z-of_z (lowest_positive c.requires.positive low)

pub returns-clause-coprime : goal.returns-clause-coprime
returns-clause-coprime c =
    let x = c.ranges.x in
    let y = c.ranges.y in
    let g : SFits w128 c.gcd-common.result = fits_from_range _ c.gcd-common.ensures.in_range in
    let p : SFits w128 c.quotient.result = fits_from_range _ c.quotient.ensures.in_range in
    let q : SFits w128 c.quotient-2.result = fits_from_range _ c.quotient-2.ensures.in_range in
    let low : IsLowest c.args.x c.args.y c.quotient.result c.quotient-2.result =
    is_lowest c.args.x c.args.y c.gcd-common.result c.quotient.result c.quotient-2.result
    c.gcd-common.ensures.not_negative (simp to_z-of_z at c.gcd-common.ensures.greatest)
    (simp to_z-of_z at c.quotient.ensures.exact)
    (simp to_z-of_z at c.quotient-2.ensures.exact) in
    simp to_z-of_z (lowest_coprime c.requires.positive low)
