use Rattle.std.proofs.Common.{arith, pos, ◌<ℤ◌, ◌≤ℤ◌}
use Rattle.std.proofs.lemmas.Int.{to_z-of_z, ints}
use Rattle.flow_program.proofs.Cited.{least_at_high, least_at_low}
use Rattle.charges.proofs.products.ordered_product.Goals as goal

pub returns-then-factor-lt0 : goal.returns-then-factor-lt0
returns-then-factor-lt0 c =
    let factor = c.ranges.factor in
    let low = c.ranges.low in
    let high = c.ranges.high in
    let t = simp to_z-of_z at c.if-factor-lt0.true in
    let below : c.args.factor <ℤ pos 0 = omega (arith, ints) in
    rw (least_at_high c.args.factor c.args.low c.args.high c.requires below)
    at (simp to_z-of_z at c.quick_product.ensures)

pub returns-else-factor-lt0 : goal.returns-else-factor-lt0
returns-else-factor-lt0 c =
    let factor = c.ranges.factor in
    let low = c.ranges.low in
    let high = c.ranges.high in
    let t = simp to_z-of_z at c.if-factor-lt0.false in
    let some : pos 0 ≤ℤ c.args.factor = omega (arith, ints) in
    rw (least_at_low c.args.factor c.args.low c.args.high c.requires some)
    at (simp to_z-of_z at c.quick_product-else-factor-lt0.ensures)
