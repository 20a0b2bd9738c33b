use Rattle.std.proofs.Common.{◌≡◌, suc, ◌<◌, ◌*ℤ◌, below_more, arith}
use Rattle.dual_simplex.specs.Rows.{table, basis}
use Rattle.dual_simplex.specs.Choice.{columns_of, scale_of}
use Rattle.dual_simplex.specs.Candidates.{vector}
use Rattle.dual_simplex.proofs.RatioLemmas.{level}
use Rattle.dual_simplex.proofs.ratios.comes_before.Goals as goal

pub loop-place-preserved : goal.loop-place-preserved
loop-place-preserved c =
    let r = c.args.rows.now in
    let q = c.loop-place.place in
    below_more _ _ c.loop-place.invariant
    (level (c.args.right.size *ℤ vector r c.args.left.column q)
    (c.args.left.size *ℤ vector r c.args.right.column q) c.in-Equal.ensures)

pub returns-clause-no : goal.returns-clause-no
returns-clause-no c =
    let r = c.args.rows.now in
    let i = c.args.left.column in
    let n : suc (columns_of r) ≡ c.scale_at-place-end.result = omega arith in
    let inside : suc i < c.loop-place.place = omega arith in
    absurd
    (c.columns_are_ordered.ensures.level (basis r) (table r) (scale_of r) i c.args.right.column
    c.args.left.size c.args.right.size c.requires.free c.requires.differ c.args.right.positive
    (c.loop-place.invariant (suc i) inside))
