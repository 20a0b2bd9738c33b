use Rattle.std.proofs.Common.{◌*ℤ◌, SFits}
use Rattle.std.specs.Int.{w128}
use Rattle.std.specs.Option.{SomeIff}
use Rattle.std.proofs.lemmas.Int.{to_z-of_z}
use Rattle.flow_program.specs.integer_laws.Lowest.{IsLowest}
use Rattle.flow_program.specs.integer_laws.Range.{InRange}
use Rattle.flow_program.proofs.exact_numbers.Cited.{fits_from_range}
use Rattle.dual_simplex.proofs.LcmLemmas.{lcm_found, found_positive, lcm_missed}
use Rattle.dual_simplex.proofs.multiple.checked_lcm.Goals as goal

pub returns-clause-least : goal.returns-clause-least
returns-clause-least c =
    let a = c.ranges.a in
    let b = c.ranges.b in
    let q : SFits w128 c.lowest_terms-part.result.1 =
    fits_from_range _ c.lowest_terms-part.ensures.second_in_range in
    let low : IsLowest c.args.a c.args.b c.lowest_terms-part.result.0 c.lowest_terms-part.result.1 =
    simp to_z-of_z at c.lowest_terms-part.ensures.lowest in
    let made : SomeIff c.checked_product.result (InRange (c.args.a *ℤ c.lowest_terms-part.result.1))
    (c.args.a *ℤ c.lowest_terms-part.result.1) = simp to_z-of_z at c.checked_product.ensures in
    lcm_found c.args.a c.args.b c.lowest_terms-part.result.0 c.lowest_terms-part.result.1
    c.checked_product.result c.requires.b_positive low made

pub returns-clause-positive : goal.returns-clause-positive
returns-clause-positive c =
    let a = c.ranges.a in
    let b = c.ranges.b in
    let q : SFits w128 c.lowest_terms-part.result.1 =
    fits_from_range _ c.lowest_terms-part.ensures.second_in_range in
    let made : SomeIff c.checked_product.result (InRange (c.args.a *ℤ c.lowest_terms-part.result.1))
    (c.args.a *ℤ c.lowest_terms-part.result.1) = simp to_z-of_z at c.checked_product.ensures in
    found_positive c.args.a c.lowest_terms-part.result.1 c.checked_product.result
    c.requires.a_positive c.lowest_terms-part.ensures.second_positive made

pub returns-clause-past : goal.returns-clause-past
returns-clause-past c =
    let a = c.ranges.a in
    let b = c.ranges.b in
    let q : SFits w128 c.lowest_terms-part.result.1 =
    fits_from_range _ c.lowest_terms-part.ensures.second_in_range in
    let low : IsLowest c.args.a c.args.b c.lowest_terms-part.result.0 c.lowest_terms-part.result.1 =
    simp to_z-of_z at c.lowest_terms-part.ensures.lowest in
    let made : SomeIff c.checked_product.result (InRange (c.args.a *ℤ c.lowest_terms-part.result.1))
    (c.args.a *ℤ c.lowest_terms-part.result.1) = simp to_z-of_z at c.checked_product.ensures in
    lcm_missed c.args.a c.args.b c.lowest_terms-part.result.0 c.lowest_terms-part.result.1
    c.checked_product.result c.requires.b_positive low made
