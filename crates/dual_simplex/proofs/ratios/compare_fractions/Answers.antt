use Rattle.std.proofs.Common.{◌≡◌, ◌*ℤ◌, ◌∙◌}
use Rattle.std.specs.Ordering.{int_cmp}
use Rattle.std.proofs.lemmas.Int.{to_z-of_z}
use Rattle.flow_program.specs.integer_laws.Lowest.{IsLowest}
use Rattle.dual_simplex.proofs.RatioLemmas.{compared_lowest}
use Rattle.dual_simplex.proofs.ratios.compare_fractions.Goals as goal

pub returns : goal.returns
returns c =
    let x = c.ranges.x in
    let a = c.ranges.a in
    let y = c.ranges.y in
    let b = c.ranges.b in
    let l = c.of-left.result in
    let r = c.of-right.result in
    let left : IsLowest c.args.x c.args.a l.num l.den = simp to_z-of_z at c.of-left.ensures.value in
    let right : IsLowest c.args.y c.args.b r.num r.den =
    simp to_z-of_z at c.of-right.ensures.value in
    let e : c.cmp.result ≡ int_cmp (l.num *ℤ r.den) (r.num *ℤ l.den) = c.cmp.ensures in
    e ∙ compared_lowest c.args.x c.args.a c.args.y c.args.b l.num l.den r.num r.den
    c.requires.a_positive c.requires.b_positive left right
