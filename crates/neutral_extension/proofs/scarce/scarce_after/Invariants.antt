use Rattle.std.proofs.Common.{◌≡◌, ◌<◌, ℕ, true}
use Rattle.pgraph.specs.number_sets.Sets.{has}
use Rattle.pgraph.specs.Tables.{shape}
use Rattle.neutral_extension.specs.OpenLeaf.{IsCounted}
use Rattle.neutral_extension.proofs.scarce.scarce_after.Given as goal

abbrev pub invariant-loop-x : goal.invariant-loop-x
invariant-loop-x l = record {
  known : (x : ℕ) → has l.x-iterator x ≡ true → x < (shape l.graph).materials;
  counted : IsCounted l.makers (shape l.graph).materials (has l.x-iterator) l.scarce;
}
