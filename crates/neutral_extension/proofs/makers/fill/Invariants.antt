use Rattle.std.proofs.Common.{◌≡◌, ℕ, [], ◌++◌, map, length}
use Rattle.pgraph.specs.number_sets.Sets.{IsSet}
use Rattle.link_lists.specs.Lists.{row}
use Rattle.neutral_extension.specs.Cells.{cell_at}
use Rattle.neutral_extension.proofs.makers.fill.Given as goal

abbrev pub invariant-loop-u : goal.invariant-loop-u
invariant-loop-u l = record {
  is_set : IsSet 128 l.u-iterator;
  cells : l.lists.cells ≡ l.fn.lists.cells;
  count : length l.lists.lists ≡ length l.fn.lists.lists;
  stack : l.lists.stack ≡ [];
  here : row l.lists.lists l.x ++ map (cell_at l.x) l.u-iterator ≡ map (cell_at l.x) l.fn.set;
  others : (y : ℕ) → (y ≡ l.x → ⊥) → row l.lists.lists y ≡ row l.fn.lists.lists y;
}
