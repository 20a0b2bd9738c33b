use Rattle.std.proofs.Common.{ℤ, pos, ◌<ℤ◌, sym, subst, SFits, to_z, of_z}
use Rattle.std.specs.Prelude.{unsigned_abs}
use Rattle.std.specs.Int.{w128, IsGcd}
use Rattle.std.proofs.lemmas.Int.{to_z-of_z}
use Rattle.exact_numbers.proofs.RangeLemmas.{fits_from_range}
use Rattle.exact_numbers.proofs.fraction.Frac.of.Goals as goal

pub invariant_of-result-clause-lowest : goal.invariant_of-result-clause-lowest
invariant_of-result-clause-lowest c =
    let k = c.lowest_terms-num.ensures in
    let n = c.lowest_terms-num.result.0 in
    let d = c.lowest_terms-num.result.1 in
    let fn : SFits w128 n = fits_from_range n k.first_in_range in
    let fd : SFits w128 d = fits_from_range d k.second_in_range in
    subst (λ (z : ℤ). IsGcd (unsigned_abs z) (unsigned_abs (to_z w128 (of_z w128 d))) 1)
    (sym (to_z-of_z w128 n fn))
    (subst (λ (z : ℤ). IsGcd (unsigned_abs n) (unsigned_abs z) 1) (sym (to_z-of_z w128 d fd))
    k.coprime)

pub invariant_of-result-clause-positive : goal.invariant_of-result-clause-positive
invariant_of-result-clause-positive c =
    let k = c.lowest_terms-num.ensures in
    let n = c.lowest_terms-num.result.0 in
    let d = c.lowest_terms-num.result.1 in
    let fn : SFits w128 n = fits_from_range n k.first_in_range in
    let fd : SFits w128 d = fits_from_range d k.second_in_range in
    subst (λ (z : ℤ). pos 0 <ℤ z) (sym (to_z-of_z w128 d fd)) k.second_positive
