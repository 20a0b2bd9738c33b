use Rattle.std.proofs.Common.{◌≡◌, ℤ, ◌*ℤ◌, arith}
use Rattle.std.specs.Int.{int_min}
use Rattle.std.proofs.lemmas.Int.{to_z-of_z, ints, clamps}
use Rattle.flow_program.specs.Columns.{least_of}
use Rattle.charges.proofs.products.lesser_product.Goals as goal

least_turned : (factor low high : ℤ) → least_of factor high low ≡ least_of factor low high
least_turned factor low high = turned (factor *ℤ low) (factor *ℤ high)
  where
    turned : (a b : ℤ) → int_min b a ≡ int_min a b
    turned a b = omega (arith, ints, clamps)

pub returns-else-low-high : goal.returns-else-low-high
returns-else-low-high c =
    let factor = c.ranges.factor in
    let low = c.ranges.low in
    let high = c.ranges.high in
    rw (least_turned c.args.factor c.args.low c.args.high)
    at (simp to_z-of_z at c.ordered_product-else-low-high.ensures)
