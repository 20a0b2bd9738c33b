use Rattle.std.proofs.Common.{◌≡◌, ℤ, pos, ◌+ℤ◌, ◌*ℤ◌, ◌<ℤ◌, sym, ◌∙◌, refl, subst, SFits}
use Rattle.std.proofs.Common.{true≢false}
use Rattle.std.specs.Int.{w128}
use Rattle.std.proofs.lemmas.Int.{to_z-of_z}
use Rattle.integer_laws.specs.Range.{InRange}
use Rattle.integer_laws.specs.Lowest.{IsLowest}
use Rattle.exact_numbers.proofs.RangeLemmas.{fits_from_range}
use Rattle.integer_laws.proofs.Cited.{mul_pos}
use Rattle.exact_numbers.proofs.LowestLemmas.{lowest_first_positive}
use Rattle.exact_numbers.proofs.FractionLemmas.{sum_lowest, no_past_sum}
use Rattle.exact_numbers.proofs.fraction.Frac.add.Goals as goal

pub returns-in_default-checked_product-clause-past :
    goal.returns-in_default-checked_product-clause-past
returns-in_default-checked_product-clause-past c =
    let s = c.args.self.now in
    let o = c.args.other.now in
    let f1 : SFits w128 s.num = fits_from_range s.num s.num_in_range in
    let f2 : SFits w128 s.den = fits_from_range s.den s.den_in_range in
    let f3 : SFits w128 o.num = fits_from_range o.num o.num_in_range in
    let f4 : SFits w128 o.den = fits_from_range o.den o.den_in_range in
    let k = c.lowest_terms-own_part.ensures in
    let p = c.lowest_terms-own_part.result.0 in
    let q = c.lowest_terms-own_part.result.1 in
    let fp : SFits w128 p = fits_from_range p k.first_in_range in
    let fq : SFits w128 q = fits_from_range q k.second_in_range in
    let low : IsLowest s.den o.den p q = simp to_z-of_z at k.lowest in
    let none = simp to_z-of_z at c.in_default-checked_product.ensures in
    (λ _. record { b_part = p; d_part = q; lowest = low; past = λ r. none r.1 }, λ _. refl)

pub returns-in_default-checked_sum-clause-past : goal.returns-in_default-checked_sum-clause-past
returns-in_default-checked_sum-clause-past c =
    let s = c.args.self.now in
    let o = c.args.other.now in
    let f1 : SFits w128 s.num = fits_from_range s.num s.num_in_range in
    let f2 : SFits w128 s.den = fits_from_range s.den s.den_in_range in
    let f3 : SFits w128 o.num = fits_from_range o.num o.num_in_range in
    let f4 : SFits w128 o.den = fits_from_range o.den o.den_in_range in
    let k = c.lowest_terms-own_part.ensures in
    let p = c.lowest_terms-own_part.result.0 in
    let q = c.lowest_terms-own_part.result.1 in
    let fp : SFits w128 p = fits_from_range p k.first_in_range in
    let fq : SFits w128 q = fits_from_range q k.second_in_range in
    let low : IsLowest s.den o.den p q = simp to_z-of_z at k.lowest in
    let P = λ (z : ℤ). InRange z in
    let x : InRange (s.num *ℤ q) × (c.in-Some.left ≡ s.num *ℤ q) =
    simp to_z-of_z at c.in-Some.ensures in
    let fl : SFits w128 c.in-Some.left = fits_from_range c.in-Some.left (subst P (sym x.1) x.0) in
    let y : InRange (o.num *ℤ p) × (c.in-Some-checked_product.right ≡ o.num *ℤ p) =
    simp to_z-of_z at c.in-Some-checked_product.ensures in
    let fr : SFits w128 c.in-Some-checked_product.right =
    fits_from_range c.in-Some-checked_product.right (subst P (sym y.1) y.0) in
    let sum : c.in-Some.left +ℤ c.in-Some-checked_product.right ≡ s.num *ℤ q +ℤ o.num *ℤ p =
    λ i. x.1 i +ℤ y.1 i in
    let none : ¬ (InRange (c.in-Some.left +ℤ c.in-Some-checked_product.right)) =
    simp to_z-of_z at c.in_default-checked_sum.ensures in (
      λ _. record {
        b_part = p;
        d_part = q;
        lowest = low;
        past =
            λ r. none (subst P (sym sum) r.2);
      },
      λ _. refl,
    )

pub returns-in_default-checked_product-2-clause-past :
    goal.returns-in_default-checked_product-2-clause-past
returns-in_default-checked_product-2-clause-past c =
    let s = c.args.self.now in
    let o = c.args.other.now in
    let f1 : SFits w128 s.num = fits_from_range s.num s.num_in_range in
    let f2 : SFits w128 s.den = fits_from_range s.den s.den_in_range in
    let f3 : SFits w128 o.num = fits_from_range o.num o.num_in_range in
    let f4 : SFits w128 o.den = fits_from_range o.den o.den_in_range in
    let k = c.lowest_terms-own_part.ensures in
    let p = c.lowest_terms-own_part.result.0 in
    let q = c.lowest_terms-own_part.result.1 in
    let fp : SFits w128 p = fits_from_range p k.first_in_range in
    let fq : SFits w128 q = fits_from_range q k.second_in_range in
    let low : IsLowest s.den o.den p q = simp to_z-of_z at k.lowest in
    let none = simp to_z-of_z at c.in_default-checked_product-2.ensures in
    (λ _. record { b_part = p; d_part = q; lowest = low; past = λ r. none r.3 }, λ _. refl)

pub of-requires-clause-positive : goal.of-requires-clause-positive
of-requires-clause-positive c =
    let s = c.args.self.now in
    let o = c.args.other.now in
    let f1 : SFits w128 s.num = fits_from_range s.num s.num_in_range in
    let f2 : SFits w128 s.den = fits_from_range s.den s.den_in_range in
    let f3 : SFits w128 o.num = fits_from_range o.num o.num_in_range in
    let f4 : SFits w128 o.den = fits_from_range o.den o.den_in_range in
    let k = c.lowest_terms-own_part.ensures in
    let p = c.lowest_terms-own_part.result.0 in
    let q = c.lowest_terms-own_part.result.1 in
    let fp : SFits w128 p = fits_from_range p k.first_in_range in
    let fq : SFits w128 q = fits_from_range q k.second_in_range in
    let low : IsLowest s.den o.den p q = simp to_z-of_z at k.lowest in
    let u : InRange (p *ℤ o.den) × (c.in-Some-checked_product-2.den ≡ p *ℤ o.den) =
    simp to_z-of_z at c.in-Some-checked_product-2.ensures in
    let fe : SFits w128 c.in-Some-checked_product-2.den =
    fits_from_range c.in-Some-checked_product-2.den
    (subst (λ (z : ℤ). InRange z) (sym u.1) u.0) in
    simp to_z-of_z
    (subst (λ (z : ℤ). pos 0 <ℤ z) (sym u.1)
    (mul_pos p o.den (lowest_first_positive s.positive low) o.positive))

pub returns-clause-value : goal.returns-clause-value
returns-clause-value c =
    let s = c.args.self.now in
    let o = c.args.other.now in
    let f1 : SFits w128 s.num = fits_from_range s.num s.num_in_range in
    let f2 : SFits w128 s.den = fits_from_range s.den s.den_in_range in
    let f3 : SFits w128 o.num = fits_from_range o.num o.num_in_range in
    let f4 : SFits w128 o.den = fits_from_range o.den o.den_in_range in
    let k = c.lowest_terms-own_part.ensures in
    let p = c.lowest_terms-own_part.result.0 in
    let q = c.lowest_terms-own_part.result.1 in
    let fp : SFits w128 p = fits_from_range p k.first_in_range in
    let fq : SFits w128 q = fits_from_range q k.second_in_range in
    let low : IsLowest s.den o.den p q = simp to_z-of_z at k.lowest in
    let P = λ (z : ℤ). InRange z in
    let x : InRange (s.num *ℤ q) × (c.in-Some.left ≡ s.num *ℤ q) =
    simp to_z-of_z at c.in-Some.ensures in
    let fl : SFits w128 c.in-Some.left = fits_from_range c.in-Some.left (subst P (sym x.1) x.0) in
    let y : InRange (o.num *ℤ p) × (c.in-Some-checked_product.right ≡ o.num *ℤ p) =
    simp to_z-of_z at c.in-Some-checked_product.ensures in
    let fr : SFits w128 c.in-Some-checked_product.right =
    fits_from_range c.in-Some-checked_product.right (subst P (sym y.1) y.0) in
    let sum : c.in-Some.left +ℤ c.in-Some-checked_product.right ≡ s.num *ℤ q +ℤ o.num *ℤ p =
    λ i. x.1 i +ℤ y.1 i in
    let t : InRange (c.in-Some.left +ℤ c.in-Some-checked_product.right)
    × (c.in-Some-checked_sum.num ≡ c.in-Some.left +ℤ c.in-Some-checked_product.right) =
    simp to_z-of_z at c.in-Some-checked_sum.ensures in
    let fm : SFits w128 c.in-Some-checked_sum.num =
    fits_from_range c.in-Some-checked_sum.num (subst P (sym t.1) t.0) in
    let u : InRange (p *ℤ o.den) × (c.in-Some-checked_product-2.den ≡ p *ℤ o.den) =
    simp to_z-of_z at c.in-Some-checked_product-2.ensures in
    let fe : SFits w128 c.in-Some-checked_product-2.den =
    fits_from_range c.in-Some-checked_product-2.den
    (subst (λ (z : ℤ). InRange z) (sym u.1) u.0) in
    let value : IsLowest c.in-Some-checked_sum.num c.in-Some-checked_product-2.den c.of.result.num
    c.of.result.den = simp to_z-of_z at c.of.ensures.value in
    sum_lowest s.num s.den o.num o.den p q c.of.result.num c.of.result.den low
    (subst (λ (z : ℤ). IsLowest z (p *ℤ o.den) c.of.result.num c.of.result.den) (t.1 ∙ sum)
    (subst (λ (z : ℤ). IsLowest c.in-Some-checked_sum.num z c.of.result.num c.of.result.den) u.1
    value))

pub returns-clause-past : goal.returns-clause-past
returns-clause-past c =
    let s = c.args.self.now in
    let o = c.args.other.now in
    let f1 : SFits w128 s.num = fits_from_range s.num s.num_in_range in
    let f2 : SFits w128 s.den = fits_from_range s.den s.den_in_range in
    let f3 : SFits w128 o.num = fits_from_range o.num o.num_in_range in
    let f4 : SFits w128 o.den = fits_from_range o.den o.den_in_range in
    let k = c.lowest_terms-own_part.ensures in
    let p = c.lowest_terms-own_part.result.0 in
    let q = c.lowest_terms-own_part.result.1 in
    let fp : SFits w128 p = fits_from_range p k.first_in_range in
    let fq : SFits w128 q = fits_from_range q k.second_in_range in
    let low : IsLowest s.den o.den p q = simp to_z-of_z at k.lowest in
    let P = λ (z : ℤ). InRange z in
    let x : InRange (s.num *ℤ q) × (c.in-Some.left ≡ s.num *ℤ q) =
    simp to_z-of_z at c.in-Some.ensures in
    let fl : SFits w128 c.in-Some.left = fits_from_range c.in-Some.left (subst P (sym x.1) x.0) in
    let y : InRange (o.num *ℤ p) × (c.in-Some-checked_product.right ≡ o.num *ℤ p) =
    simp to_z-of_z at c.in-Some-checked_product.ensures in
    let fr : SFits w128 c.in-Some-checked_product.right =
    fits_from_range c.in-Some-checked_product.right (subst P (sym y.1) y.0) in
    let sum : c.in-Some.left +ℤ c.in-Some-checked_product.right ≡ s.num *ℤ q +ℤ o.num *ℤ p =
    λ i. x.1 i +ℤ y.1 i in
    let t : InRange (c.in-Some.left +ℤ c.in-Some-checked_product.right)
    × (c.in-Some-checked_sum.num ≡ c.in-Some.left +ℤ c.in-Some-checked_product.right) =
    simp to_z-of_z at c.in-Some-checked_sum.ensures in
    let fm : SFits w128 c.in-Some-checked_sum.num =
    fits_from_range c.in-Some-checked_sum.num (subst P (sym t.1) t.0) in
    let u : InRange (p *ℤ o.den) × (c.in-Some-checked_product-2.den ≡ p *ℤ o.den) =
    simp to_z-of_z at c.in-Some-checked_product-2.ensures in
    let fe : SFits w128 c.in-Some-checked_product-2.den =
    fits_from_range c.in-Some-checked_product-2.den
    (subst (λ (z : ℤ). InRange z) (sym u.1) u.0) in
    let none =
    no_past_sum s.num s.den o.num o.den p q o.positive low (x.0, y.0, subst P sum t.0, u.0) in
    (λ e. absurd (true≢false (sym e)), λ past. absurd (none past))
