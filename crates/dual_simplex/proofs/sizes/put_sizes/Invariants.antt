use Rattle.std.specs.Prelude.{◌≡◌, length, All}
use Rattle.dual_simplex.specs.Sizes.{IsSize}
use Rattle.dual_simplex.proofs.sizes.put_sizes.Given as goal

abbrev pub invariant-loop-unit : goal.invariant-loop-unit
invariant-loop-unit l = (length l.sizes ≡ length l.fn.sizes) × All IsSize l.sizes
