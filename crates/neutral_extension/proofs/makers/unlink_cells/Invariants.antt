use Rattle.std.proofs.Common.{◌≡◌, ◌≤◌, ℕ}
use Rattle.pgraph.specs.number_sets.Sets.{IsSet}
use Rattle.pgraph.specs.Tables.{shape}
use Rattle.neutral_extension.specs.Cells.{unit_cells, out_cells, AreFrom}
use Rattle.neutral_extension.proofs.makers.unlink_cells.Given as goal

abbrev pub invariant-loop-x : goal.invariant-loop-x
invariant-loop-x l = record {
  is_set : IsSet 256 l.x-iterator;
  out :
      (n : ℕ) × (n ≤ (shape l.graph).materials) × AreFrom (shape l.graph).makes l.u n l.x-iterator
      × (l.lists ≡ out_cells l.fn.lists (unit_cells (shape l.graph).makes l.u n));
}
