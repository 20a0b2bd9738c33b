use Rattle.std.proofs.Common.{◌≡◌, ℕ, take}
use Rattle.pgraph.specs.number_sets.Sets.{has}
use Rattle.neutral_extension.proofs.makers.Makers.taken_out.Given as goal

abbrev pub invariant-units : goal.invariant-units
invariant-units l = (u : ℕ) → has l.out u ≡ has (take l.i l.self.taken) u
