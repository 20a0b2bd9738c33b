use Rattle.std.proofs.Common.{◌≡◌, ℕ, true, ◌↔◌}
use Rattle.pgraph.specs.number_sets.Sets.{has}
use Rattle.pgraph.specs.Tables.{shape}
use Rattle.neutral_extension.proofs.FindLemmas.{MakesRawBelow}
use Rattle.neutral_extension.proofs.units.raw_makers.Given as goal

abbrev pub invariant-loop-x : goal.invariant-loop-x
invariant-loop-x l = (u : ℕ) → (has l.found u ≡ true) ↔ MakesRawBelow (shape l.graph) l.x u
