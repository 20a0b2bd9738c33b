use Rattle.std.proofs.Common.{rules, SFits, sym}
use Rattle.std.proofs.lemmas.Int.{to_z-of_z}
use Rattle.std.specs.Int.{w128}
use Rattle.exact_numbers.proofs.RangeLemmas.{past_small, past_left, past_right, past_none}
use Rattle.exact_numbers.proofs.RangeLemmas.{past_difference}
use Rattle.exact_numbers.proofs.combination.first_past.Goals as goal

pub returns-then-is_small-4 : goal.returns-then-is_small-4
returns-then-is_small-4 c =
    let p = c.ranges.p in
    let x = c.ranges.x in
    let q = c.ranges.q in
    let y = c.ranges.y in
    let hp = simp to_z-of_z at c.is_small.ensures.0 in
    let hx = simp to_z-of_z at c.is_small-then-is_small.ensures.0 in
    let hq = simp to_z-of_z at c.is_small-then-is_small-2.ensures.0 in
    let hy = simp to_z-of_z at c.is_small-then-is_small-3.ensures.0 in
    sym (past_small c.args.p c.args.x c.args.q c.args.y (hp c.if-is_small.true)
    (hx c.if-is_small-2.true) (hq c.if-is_small-3.true) (hy c.if-is_small-4.true))

pub returns-in_default : goal.returns-in_default
returns-in_default c =
    let p = c.ranges.p in
    let x = c.ranges.x in
    let q = c.ranges.q in
    let y = c.ranges.y in
    let h = simp to_z-of_z at c.in_default.ensures in
    sym (past_left c.args.p c.args.x c.args.q c.args.y h)

pub returns-in_default-checked_product : goal.returns-in_default-checked_product
returns-in_default-checked_product c =
    let p = c.ranges.p in
    let x = c.ranges.x in
    let q = c.ranges.q in
    let y = c.ranges.y in
    let h1 = simp to_z-of_z at c.in-Some.ensures in
    let h = simp to_z-of_z at c.in_default-checked_product.ensures in
    sym (past_right c.args.p c.args.x c.args.q c.args.y h1.0 h)

pub returns-in-Some-checked_difference : goal.returns-in-Some-checked_difference
returns-in-Some-checked_difference c =
    let p = c.ranges.p in
    let x = c.ranges.x in
    let q = c.ranges.q in
    let y = c.ranges.y in
    let l : SFits w128 c.in-Some.left = search rules in
    let r : SFits w128 c.in-Some-checked_product.right = search rules in
    let h1 = simp to_z-of_z at c.in-Some.ensures in
    let h2 = simp to_z-of_z at c.in-Some-checked_product.ensures in
    let h3 = simp to_z-of_z at c.in-Some-checked_difference.ensures in
    sym (past_none c.args.p c.args.x c.args.q c.args.y _ _ h1.0 h1.1 h2.0 h2.1 h3.0)

pub returns-in-None : goal.returns-in-None
returns-in-None c =
    let p = c.ranges.p in
    let x = c.ranges.x in
    let q = c.ranges.q in
    let y = c.ranges.y in
    let l : SFits w128 c.in-Some.left = search rules in
    let r : SFits w128 c.in-Some-checked_product.right = search rules in
    let h1 = simp to_z-of_z at c.in-Some.ensures in
    let h2 = simp to_z-of_z at c.in-Some-checked_product.ensures in
    let h3 = simp to_z-of_z at c.in-None.ensures in
    sym (past_difference c.args.p c.args.x c.args.q c.args.y _ _ h1.0 h1.1 h2.0 h2.1 h3)
