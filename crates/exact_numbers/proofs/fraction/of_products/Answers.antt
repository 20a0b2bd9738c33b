use Rattle.std.proofs.Common.{◌≡◌, ℤ, pos, ◌*ℤ◌, ◌<ℤ◌, sym, ◌∙◌, subst, to_z, of_z}
use Rattle.std.specs.Prelude.{unsigned_abs}
use Rattle.std.specs.Int.{w128, IsGcd}
use Rattle.std.proofs.lemmas.Int.{to_z-of_z}
use Rattle.integer_laws.specs.Range.{InRange}
use Rattle.exact_numbers.proofs.RangeLemmas.{fits_from_range}
use Rattle.exact_numbers.proofs.fraction.of_products.Goals as goal

pub invariant_of-result-clause-positive : goal.invariant_of-result-clause-positive
invariant_of-result-clause-positive c =
    let fa = c.ranges.a in
    let fc = c.ranges.c in
    let fb = c.ranges.b in
    let fd = c.ranges.d in
    let x : InRange (c.args.a *ℤ c.args.c) × (c.in-Some.num ≡ c.args.a *ℤ c.args.c) =
    simp to_z-of_z at c.in-Some.ensures in
    let y : InRange (c.args.b *ℤ c.args.d)
    × (c.in-Some-checked_product.den ≡ c.args.b *ℤ c.args.d) =
    simp to_z-of_z at c.in-Some-checked_product.ensures in
    let num = c.in-Some.num in
    let den = c.in-Some-checked_product.den in
    let P = λ (z : ℤ). InRange z in
    let kn : to_z w128 (of_z w128 num) ≡ c.args.a *ℤ c.args.c =
    to_z-of_z w128 num (fits_from_range num (subst P (sym x.1) x.0)) ∙ x.1 in
    let kd : to_z w128 (of_z w128 den) ≡ c.args.b *ℤ c.args.d =
    to_z-of_z w128 den (fits_from_range den (subst P (sym y.1) y.0)) ∙ y.1 in
    subst (λ (z : ℤ). pos 0 <ℤ z) (sym kd) c.requires.positive

pub invariant_of-result-clause-lowest : goal.invariant_of-result-clause-lowest
invariant_of-result-clause-lowest c =
    let fa = c.ranges.a in
    let fc = c.ranges.c in
    let fb = c.ranges.b in
    let fd = c.ranges.d in
    let x : InRange (c.args.a *ℤ c.args.c) × (c.in-Some.num ≡ c.args.a *ℤ c.args.c) =
    simp to_z-of_z at c.in-Some.ensures in
    let y : InRange (c.args.b *ℤ c.args.d)
    × (c.in-Some-checked_product.den ≡ c.args.b *ℤ c.args.d) =
    simp to_z-of_z at c.in-Some-checked_product.ensures in
    let num = c.in-Some.num in
    let den = c.in-Some-checked_product.den in
    let P = λ (z : ℤ). InRange z in
    let kn : to_z w128 (of_z w128 num) ≡ c.args.a *ℤ c.args.c =
    to_z-of_z w128 num (fits_from_range num (subst P (sym x.1) x.0)) ∙ x.1 in
    let kd : to_z w128 (of_z w128 den) ≡ c.args.b *ℤ c.args.d =
    to_z-of_z w128 den (fits_from_range den (subst P (sym y.1) y.0)) ∙ y.1 in
    subst (λ (z : ℤ). IsGcd (unsigned_abs z) (unsigned_abs (to_z w128 (of_z w128 den))) 1) (sym kn)
    (subst (λ (z : ℤ). IsGcd (unsigned_abs (c.args.a *ℤ c.args.c)) (unsigned_abs z) 1) (sym kd)
    c.requires.coprime)
