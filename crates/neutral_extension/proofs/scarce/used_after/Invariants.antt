use Rattle.std.proofs.Common.{◌≡◌, ◌<◌, ℕ, true}
use Rattle.pgraph.specs.number_sets.Sets.{has}
use Rattle.pgraph.specs.pns_rules.Structure.{is_used}
use Rattle.pgraph.specs.Tables.{shape}
use Rattle.neutral_extension.specs.OpenLeaf.{IsTold}
use Rattle.neutral_extension.proofs.scarce.used_after.Given as goal

abbrev pub invariant-loop-x : goal.invariant-loop-x
invariant-loop-x l = record {
  known : (x : ℕ) → has l.x-iterator x ≡ true → x < (shape l.graph).materials;
  told : IsTold (has l.x-iterator) (is_used (shape l.graph) (has l.rest)) l.used;
}
