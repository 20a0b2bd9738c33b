use Rattle.std.proofs.Common.{◌≡◌, ℤ, suc, ◌-◌, ◌*ℤ◌, neg_ℤ, arith, ap, ◌∙◌, SFits, sym, true}
use Rattle.std.specs.Ordering.{int_cmp}
use Rattle.std.specs.Int.{w128}
use Rattle.std.proofs.lemmas.Int.{to_z-of_z}
use Rattle.flow_program.proofs.exact_numbers.Cited.{fits_from_range}
use Rattle.dual_simplex.specs.Rows.{basis}
use Rattle.dual_simplex.specs.Candidates.{vector}
use Rattle.dual_simplex.proofs.RatioLemmas.{vector_basic}
use Rattle.dual_simplex.proofs.ratios.compare_at.Goals as goal

pub returns-then-is_basic : goal.returns-then-is_basic
returns-then-is_basic c =
    let r = c.args.rows.now in
    let k = c.args.place - 1 in
    let q : suc k ≡ c.args.place = omega arith in
    let x = c.negated-x.result in
    let y = c.negated-y.result in
    let fx : SFits w128 x = fits_from_range _ c.negated-x.ensures.in_range in
    let fy : SFits w128 y = fits_from_range _ c.negated-y.ensures.in_range in
    let fa : SFits w128 c.args.left.size = fits_from_range _ c.args.left.in_range in
    let fb : SFits w128 c.args.right.size = fits_from_range _ c.args.right.in_range in
    let fl : SFits w128 c.entry.result = fits_from_range _ c.entry.ensures.in_range in
    let fr : SFits w128 c.entry-then-is_basic.result =
    fits_from_range _ c.entry-then-is_basic.ensures.in_range in
    let e : c.compare_ratios-then-is_basic.result
    ≡ int_cmp (c.args.right.size *ℤ x) (c.args.left.size *ℤ y) =
    simp to_z-of_z at c.compare_ratios-then-is_basic.ensures in
    let b : basis r k ≡ true = sym c.is_basic.ensures ∙ c.if-is_basic.true in
    let vx : x ≡ vector r c.args.left.column c.args.place =
    (simp to_z-of_z at c.negated-x.ensures.value)
    ∙ (ap neg_ℤ c.entry.ensures.value ∙ vector_basic r c.args.left.column k c.args.place q b) in
    let vy : y ≡ vector r c.args.right.column c.args.place =
    (simp to_z-of_z at c.negated-y.ensures.value)
    ∙ (ap neg_ℤ c.entry-then-is_basic.ensures.value
    ∙ vector_basic r c.args.right.column k c.args.place q b) in
    e ∙ (ap (λ (z : ℤ). int_cmp (c.args.right.size *ℤ z) (c.args.left.size *ℤ y)) vx
    ∙ ap
    (λ (z : ℤ). int_cmp (c.args.right.size *ℤ vector r c.args.left.column c.args.place)
    (c.args.left.size *ℤ z)) vy)
