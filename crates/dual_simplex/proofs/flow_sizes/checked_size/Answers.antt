use Rattle.std.proofs.Common.{◌≡◌, sym, ap, SFits, pos, ◌+ℤ◌, ◌*ℤ◌, ℤ, List, subst, rules}
use Rattle.std.specs.Int.{w128}
use Rattle.std.specs.Prelude.{slice_index_or}
use Rattle.std.proofs.lemmas.Int.{to_z-of_z}
use Rattle.flow_program.proofs.exact_numbers.Cited.{fits_from_range}
use Rattle.flow_program.specs.integer_laws.Range.{InRange}
use Rattle.flow_program.specs.flow_rules.LinearProgram.{linear_of}
use Rattle.dual_simplex.proofs.SizeLemmas.{shift_out, above_out, total_out, size_found, steps_found}
use Rattle.dual_simplex.proofs.flow_sizes.checked_size.Goals as goal

pub returns-in_default-clause-past : goal.returns-in_default-clause-past
returns-in_default-clause-past c = λ v.
    let f = c.ranges.den in
    let low = slice_index_or c.lows.result.now c.args.unit (pos 0) in
    let fl : SFits w128 low = search rules in
    let e : low ≡ slice_index_or c.args.program.now.lows c.args.unit (pos 0) =
    ap (λ (xs : List ℤ). slice_index_or xs c.args.unit (pos 0)) c.lows.ensures in
    let past : ¬ InRange (low *ℤ c.args.den) = simp to_z-of_z at c.in_default.ensures in
    shift_out v c.args.unit low c.args.den e (c.requires.den (linear_of c.args.program.now) v) past

pub checked_size_above-requires-clause-den : goal.checked_size_above-requires-clause-den
checked_size_above-requires-clause-den c = λ p v. let f =
    c.ranges.den in simp to_z-of_z (c.requires.den p v)

pub returns-in_default-checked_size_above-clause-past :
    goal.returns-in_default-checked_size_above-clause-past
returns-in_default-checked_size_above-clause-past c = λ v.
    let f = c.ranges.den in
    let low = slice_index_or c.lows.result.now c.args.unit (pos 0) in
    let fl : SFits w128 low = search rules in
    let e : low ≡ slice_index_or c.args.program.now.lows c.args.unit (pos 0) =
    ap (λ (xs : List ℤ). slice_index_or xs c.args.unit (pos 0)) c.lows.ensures in
    let made : InRange (low *ℤ c.args.den) × (c.in-Some.shift ≡ low *ℤ c.args.den) =
    simp to_z-of_z at c.in-Some.ensures in
    let d = c.requires.den (linear_of c.args.program.now) v in
    above_out v c.args.unit low c.args.den c.in-Some.shift e d made
    (c.in_default-checked_size_above.ensures (linear_of c.args.program.now) v)

pub returns-in-Some-checked_sum-clause-size : goal.returns-in-Some-checked_sum-clause-size
returns-in-Some-checked_sum-clause-size c = λ v.
    let f = c.ranges.den in
    let low = slice_index_or c.lows.result.now c.args.unit (pos 0) in
    let fl : SFits w128 low = search rules in
    let e : low ≡ slice_index_or c.args.program.now.lows c.args.unit (pos 0) =
    ap (λ (xs : List ℤ). slice_index_or xs c.args.unit (pos 0)) c.lows.ensures in
    let made : InRange (low *ℤ c.args.den) × (c.in-Some.shift ≡ low *ℤ c.args.den) =
    simp to_z-of_z at c.in-Some.ensures in
    let d = c.requires.den (linear_of c.args.program.now) v in
    let above = c.in-Some-checked_size_above.above in
    let more = c.in-Some-checked_size_above.ensures (linear_of c.args.program.now) v in
    let fs : SFits w128 c.in-Some.shift =
    fits_from_range c.in-Some.shift (subst InRange (sym made.1) made.0) in
    let fa : SFits w128 above = fits_from_range above (subst InRange (sym more.1) more.0) in
    let total : InRange (c.in-Some.shift +ℤ above)
    × (c.in-Some-checked_sum.total ≡ c.in-Some.shift +ℤ above) =
    simp to_z-of_z at c.in-Some-checked_sum.ensures in
    let ft : SFits w128 c.in-Some-checked_sum.total =
    fits_from_range c.in-Some-checked_sum.total (subst InRange (sym total.1) total.0) in
    simp to_z-of_z
    (size_found v c.args.unit low c.args.den c.in-Some.shift above c.in-Some-checked_sum.total e
    d made.1 more.1 total.1)

pub returns-in-Some-checked_sum-clause-in_range : goal.returns-in-Some-checked_sum-clause-in_range
returns-in-Some-checked_sum-clause-in_range c = λ v.
    let f = c.ranges.den in
    let low = slice_index_or c.lows.result.now c.args.unit (pos 0) in
    let fl : SFits w128 low = search rules in
    let e : low ≡ slice_index_or c.args.program.now.lows c.args.unit (pos 0) =
    ap (λ (xs : List ℤ). slice_index_or xs c.args.unit (pos 0)) c.lows.ensures in
    let made : InRange (low *ℤ c.args.den) × (c.in-Some.shift ≡ low *ℤ c.args.den) =
    simp to_z-of_z at c.in-Some.ensures in
    let d = c.requires.den (linear_of c.args.program.now) v in
    let above = c.in-Some-checked_size_above.above in
    let more = c.in-Some-checked_size_above.ensures (linear_of c.args.program.now) v in
    let fs : SFits w128 c.in-Some.shift =
    fits_from_range c.in-Some.shift (subst InRange (sym made.1) made.0) in
    let fa : SFits w128 above = fits_from_range above (subst InRange (sym more.1) more.0) in
    let total : InRange (c.in-Some.shift +ℤ above)
    × (c.in-Some-checked_sum.total ≡ c.in-Some.shift +ℤ above) =
    simp to_z-of_z at c.in-Some-checked_sum.ensures in
    let ft : SFits w128 c.in-Some-checked_sum.total =
    fits_from_range c.in-Some-checked_sum.total (subst InRange (sym total.1) total.0) in
    steps_found v c.args.unit low c.args.den c.in-Some.shift above e d made more total.0

pub returns-in-None-clause-past : goal.returns-in-None-clause-past
returns-in-None-clause-past c = λ v.
    let f = c.ranges.den in
    let low = slice_index_or c.lows.result.now c.args.unit (pos 0) in
    let fl : SFits w128 low = search rules in
    let e : low ≡ slice_index_or c.args.program.now.lows c.args.unit (pos 0) =
    ap (λ (xs : List ℤ). slice_index_or xs c.args.unit (pos 0)) c.lows.ensures in
    let made : InRange (low *ℤ c.args.den) × (c.in-Some.shift ≡ low *ℤ c.args.den) =
    simp to_z-of_z at c.in-Some.ensures in
    let d = c.requires.den (linear_of c.args.program.now) v in
    let above = c.in-Some-checked_size_above.above in
    let more = c.in-Some-checked_size_above.ensures (linear_of c.args.program.now) v in
    let fs : SFits w128 c.in-Some.shift =
    fits_from_range c.in-Some.shift (subst InRange (sym made.1) made.0) in
    let fa : SFits w128 above = fits_from_range above (subst InRange (sym more.1) more.0) in
    let past : ¬ InRange (c.in-Some.shift +ℤ above) = simp to_z-of_z at c.in-None.ensures in
    total_out v c.args.unit low c.args.den c.in-Some.shift above e d made more past
