use Rattle.std.proofs.Common.{◌≡◌, ◌≤◌, ◌*◌, ℕ, List, [], length}
use Rattle.link_lists.specs.Lists.{row}
use Rattle.pgraph.specs.Tables.{shape}
use Rattle.neutral_extension.proofs.KeptLemmas.{AreFilled}
use Rattle.neutral_extension.proofs.makers.full_lists.Given as goal

abbrev pub invariant-loop-x : goal.invariant-loop-x
invariant-loop-x l = record {
  cells : l.lists.cells ≡ (shape l.graph).materials * 128;
  count : length l.lists.lists ≡ (shape l.graph).materials;
  stack : l.lists.stack ≡ [];
  filled : (mk : List (List ℕ)) × AreFilled (shape l.graph) l.x l.lists.lists mk;
  empty : (y : ℕ) → l.x ≤ y → row l.lists.lists y ≡ [];
}
