use Rattle.std.proofs.Common.{◌≡◌, ◌∙◌, true, ap, SFits, ℕ, ℤ, ◌*ℤ◌, subst, rules}
use Rattle.std.specs.Int.{w128}
use Rattle.std.specs.Prelude.{int_div}
use Rattle.std.specs.Option.{SomeIff}
use Rattle.std.proofs.lemmas.Int.{to_z-of_z}
use Rattle.flow_program.proofs.exact_numbers.Cited.{fits_from_range}
use Rattle.flow_program.specs.integer_laws.Lowest.{IsLowest}
use Rattle.flow_program.specs.integer_laws.Range.{InRange}
use Rattle.dual_simplex.specs.Rows.{table, basis}
use Rattle.dual_simplex.specs.Choice.{columns_of}
use Rattle.dual_simplex.proofs.SizeLemmas.{part_divides, above_found}
use Rattle.dual_simplex.proofs.flow_sizes.checked_size_above.Goals as goal

pub quotient-requires-clause-divides : goal.quotient-requires-clause-divides
quotient-requires-clause-divides c =
    let r = c.args.rows.now in
    let i = c.args.unit in
    let f = c.ranges.den in
    let b : basis r i ≡ true = search rules in
    let ff : SFits w128 c.entry.result = fits_from_range _ c.entry.ensures.in_range in
    let fg : SFits w128 c.entry-2.result = fits_from_range _ c.entry-2.ensures.in_range in
    let fr : SFits w128 c.lowest_terms-right.result.0 =
    fits_from_range _ c.lowest_terms-right.ensures.first_in_range in
    let fo : SFits w128 c.lowest_terms-right.result.1 =
    fits_from_range _ c.lowest_terms-right.ensures.second_in_range in
    let at_right : c.entry.result ≡ table r i (columns_of r) =
    c.entry.ensures.value ∙ ap (λ (k : ℕ). table r i k) c.right_at.ensures in
    let low : IsLowest c.entry.result c.entry-2.result c.lowest_terms-right.result.0
    c.lowest_terms-right.result.1 = simp to_z-of_z at c.lowest_terms-right.ensures.lowest in
    let low' : IsLowest (table r i (columns_of r)) (table r i i) c.lowest_terms-right.result.0
    c.lowest_terms-right.result.1 =
    subst
    (λ (x : ℤ). IsLowest x (table r i i) c.lowest_terms-right.result.0
    c.lowest_terms-right.result.1) at_right
    (subst
    (λ (x : ℤ). IsLowest c.entry.result x c.lowest_terms-right.result.0
    c.lowest_terms-right.result.1) c.entry-2.ensures.value low) in
    simp to_z-of_z
    (part_divides r i c.args.den c.lowest_terms-right.result.0 c.lowest_terms-right.result.1
    c.requires.unit c.requires.own b low' c.requires.den)

pub returns : goal.returns
returns c = λ p v.
    let r = c.args.rows.now in
    let i = c.args.unit in
    let f = c.ranges.den in
    let b : basis r i ≡ true = search rules in
    let ff : SFits w128 c.entry.result = fits_from_range _ c.entry.ensures.in_range in
    let fg : SFits w128 c.entry-2.result = fits_from_range _ c.entry-2.ensures.in_range in
    let fr : SFits w128 c.lowest_terms-right.result.0 =
    fits_from_range _ c.lowest_terms-right.ensures.first_in_range in
    let fo : SFits w128 c.lowest_terms-right.result.1 =
    fits_from_range _ c.lowest_terms-right.ensures.second_in_range in
    let fq : SFits w128 c.quotient.result = fits_from_range _ c.quotient.ensures.in_range in
    let at_right : c.entry.result ≡ table r i (columns_of r) =
    c.entry.ensures.value ∙ ap (λ (k : ℕ). table r i k) c.right_at.ensures in
    let low : IsLowest c.entry.result c.entry-2.result c.lowest_terms-right.result.0
    c.lowest_terms-right.result.1 = simp to_z-of_z at c.lowest_terms-right.ensures.lowest in
    let low' : IsLowest (table r i (columns_of r)) (table r i i) c.lowest_terms-right.result.0
    c.lowest_terms-right.result.1 =
    subst
    (λ (x : ℤ). IsLowest x (table r i i) c.lowest_terms-right.result.0
    c.lowest_terms-right.result.1) at_right
    (subst
    (λ (x : ℤ). IsLowest c.entry.result x c.lowest_terms-right.result.0
    c.lowest_terms-right.result.1) c.entry-2.ensures.value low) in
    let q : c.quotient.result ≡ int_div c.args.den c.lowest_terms-right.result.1 =
    simp to_z-of_z at c.quotient.ensures.value in
    let made : SomeIff c.checked_product.result
    (InRange (c.quotient.result *ℤ c.lowest_terms-right.result.0))
    (c.quotient.result *ℤ c.lowest_terms-right.result.0) =
    simp to_z-of_z at c.checked_product.ensures in
    above_found v i c.args.den c.quotient.result c.lowest_terms-right.result.0
    c.lowest_terms-right.result.1 c.checked_product.result c.requires.unit b
    (c.requires.own i c.requires.unit b) low' (c.requires.den p v) q made
