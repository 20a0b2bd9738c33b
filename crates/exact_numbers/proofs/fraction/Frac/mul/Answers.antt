use Rattle.std.proofs.Common.{◌≡◌, ℤ, ◌*ℤ◌, sym, subst, SFits}
use Rattle.std.specs.Prelude.{unsigned_abs, IfOk, IsErr, ◌↔◌}
use Rattle.std.proofs.lemmas.Result.{IfOk-weaker}
use Rattle.std.specs.Int.{w128, IsGcd}
use Rattle.std.proofs.lemmas.Int.{to_z-of_z}
use Rattle.integer_laws.specs.Range.{InRange}
use Rattle.integer_laws.specs.Lowest.{IsLowest}
use Rattle.exact_numbers.proofs.RangeLemmas.{fits_from_range}
use Rattle.integer_laws.proofs.Cited.{mul_pos}
use Rattle.exact_numbers.proofs.FractionLemmas.{products_coprime, product_lowest, past_lowest}
use Rattle.exact_numbers.proofs.fraction.Frac.mul.Goals as goal

pub of_products-requires-clause-positive : goal.of_products-requires-clause-positive
of_products-requires-clause-positive c =
    let s = c.args.self.now in
    let o = c.args.other.now in
    let f1 : SFits w128 s.num = fits_from_range s.num s.num_in_range in
    let f2 : SFits w128 s.den = fits_from_range s.den s.den_in_range in
    let f3 : SFits w128 o.num = fits_from_range o.num o.num_in_range in
    let f4 : SFits w128 o.den = fits_from_range o.den o.den_in_range in
    let l = c.lowest_terms-left_num.ensures in
    let r = c.lowest_terms-right_num.ensures in
    let n = c.lowest_terms-left_num.result.0 in
    let d = c.lowest_terms-left_num.result.1 in
    let m = c.lowest_terms-right_num.result.0 in
    let e = c.lowest_terms-right_num.result.1 in
    let fn : SFits w128 n = fits_from_range n l.first_in_range in
    let fd : SFits w128 d = fits_from_range d l.second_in_range in
    let fm : SFits w128 m = fits_from_range m r.first_in_range in
    let fe : SFits w128 e = fits_from_range e r.second_in_range in
    let left : IsLowest s.num o.den n d = simp to_z-of_z at l.lowest in
    let right : IsLowest o.num s.den m e = simp to_z-of_z at r.lowest in
    let coprime : IsGcd (unsigned_abs (n *ℤ m)) (unsigned_abs (d *ℤ e)) 1 =
    products_coprime s.num s.den o.num o.den n d m e s.lowest o.lowest left right l.coprime
    r.coprime in
    simp to_z-of_z (mul_pos d e l.second_positive r.second_positive)

pub of_products-requires-clause-coprime : goal.of_products-requires-clause-coprime
of_products-requires-clause-coprime c =
    let s = c.args.self.now in
    let o = c.args.other.now in
    let f1 : SFits w128 s.num = fits_from_range s.num s.num_in_range in
    let f2 : SFits w128 s.den = fits_from_range s.den s.den_in_range in
    let f3 : SFits w128 o.num = fits_from_range o.num o.num_in_range in
    let f4 : SFits w128 o.den = fits_from_range o.den o.den_in_range in
    let l = c.lowest_terms-left_num.ensures in
    let r = c.lowest_terms-right_num.ensures in
    let n = c.lowest_terms-left_num.result.0 in
    let d = c.lowest_terms-left_num.result.1 in
    let m = c.lowest_terms-right_num.result.0 in
    let e = c.lowest_terms-right_num.result.1 in
    let fn : SFits w128 n = fits_from_range n l.first_in_range in
    let fd : SFits w128 d = fits_from_range d l.second_in_range in
    let fm : SFits w128 m = fits_from_range m r.first_in_range in
    let fe : SFits w128 e = fits_from_range e r.second_in_range in
    let left : IsLowest s.num o.den n d = simp to_z-of_z at l.lowest in
    let right : IsLowest o.num s.den m e = simp to_z-of_z at r.lowest in
    let coprime : IsGcd (unsigned_abs (n *ℤ m)) (unsigned_abs (d *ℤ e)) 1 =
    products_coprime s.num s.den o.num o.den n d m e s.lowest o.lowest left right l.coprime
    r.coprime in
    simp to_z-of_z coprime

pub returns-clause-value : goal.returns-clause-value
returns-clause-value c =
    let s = c.args.self.now in
    let o = c.args.other.now in
    let f1 : SFits w128 s.num = fits_from_range s.num s.num_in_range in
    let f2 : SFits w128 s.den = fits_from_range s.den s.den_in_range in
    let f3 : SFits w128 o.num = fits_from_range o.num o.num_in_range in
    let f4 : SFits w128 o.den = fits_from_range o.den o.den_in_range in
    let l = c.lowest_terms-left_num.ensures in
    let r = c.lowest_terms-right_num.ensures in
    let n = c.lowest_terms-left_num.result.0 in
    let d = c.lowest_terms-left_num.result.1 in
    let m = c.lowest_terms-right_num.result.0 in
    let e = c.lowest_terms-right_num.result.1 in
    let fn : SFits w128 n = fits_from_range n l.first_in_range in
    let fd : SFits w128 d = fits_from_range d l.second_in_range in
    let fm : SFits w128 m = fits_from_range m r.first_in_range in
    let fe : SFits w128 e = fits_from_range e r.second_in_range in
    let left : IsLowest s.num o.den n d = simp to_z-of_z at l.lowest in
    let right : IsLowest o.num s.den m e = simp to_z-of_z at r.lowest in
    let coprime : IsGcd (unsigned_abs (n *ℤ m)) (unsigned_abs (d *ℤ e)) 1 =
    products_coprime s.num s.den o.num o.den n d m e s.lowest o.lowest left right l.coprime
    r.coprime in
    let low : IsLowest (s.num *ℤ o.num) (s.den *ℤ o.den) (n *ℤ m) (d *ℤ e) =
    product_lowest s.num s.den o.num o.den n d m e s.positive o.positive l.second_positive
    r.second_positive left right coprime in
    let value : IfOk c.of_products.result (λ f. (f.num ≡ n *ℤ m) × (f.den ≡ d *ℤ e)) =
    simp to_z-of_z at c.of_products.ensures.value in
    IfOk-weaker c.of_products.result _ _
    (λ f same. subst (λ (z : ℤ). IsLowest (s.num *ℤ o.num) (s.den *ℤ o.den) z f.den)
    (sym same.0)
    (subst (λ (z : ℤ). IsLowest (s.num *ℤ o.num) (s.den *ℤ o.den) (n *ℤ m) z) (sym same.1) low))
    value

pub returns-clause-past : goal.returns-clause-past
returns-clause-past c =
    let s = c.args.self.now in
    let o = c.args.other.now in
    let f1 : SFits w128 s.num = fits_from_range s.num s.num_in_range in
    let f2 : SFits w128 s.den = fits_from_range s.den s.den_in_range in
    let f3 : SFits w128 o.num = fits_from_range o.num o.num_in_range in
    let f4 : SFits w128 o.den = fits_from_range o.den o.den_in_range in
    let l = c.lowest_terms-left_num.ensures in
    let r = c.lowest_terms-right_num.ensures in
    let n = c.lowest_terms-left_num.result.0 in
    let d = c.lowest_terms-left_num.result.1 in
    let m = c.lowest_terms-right_num.result.0 in
    let e = c.lowest_terms-right_num.result.1 in
    let fn : SFits w128 n = fits_from_range n l.first_in_range in
    let fd : SFits w128 d = fits_from_range d l.second_in_range in
    let fm : SFits w128 m = fits_from_range m r.first_in_range in
    let fe : SFits w128 e = fits_from_range e r.second_in_range in
    let left : IsLowest s.num o.den n d = simp to_z-of_z at l.lowest in
    let right : IsLowest o.num s.den m e = simp to_z-of_z at r.lowest in
    let coprime : IsGcd (unsigned_abs (n *ℤ m)) (unsigned_abs (d *ℤ e)) 1 =
    products_coprime s.num s.den o.num o.den n d m e s.lowest o.lowest left right l.coprime
    r.coprime in
    let low : IsLowest (s.num *ℤ o.num) (s.den *ℤ o.den) (n *ℤ m) (d *ℤ e) =
    product_lowest s.num s.den o.num o.den n d m e s.positive o.positive l.second_positive
    r.second_positive left right coprime in
    let past : IsErr c.of_products.result ↔ (¬ (InRange (n *ℤ m) × InRange (d *ℤ e))) =
    simp to_z-of_z at c.of_products.ensures.past in
    let whole =
    past_lowest (s.num *ℤ o.num) (s.den *ℤ o.den) (n *ℤ m) (d *ℤ e)
    (mul_pos s.den o.den s.positive o.positive) low in
    (λ r. whole.0 (past.0 r), λ r. past.1 (whole.1 r))
