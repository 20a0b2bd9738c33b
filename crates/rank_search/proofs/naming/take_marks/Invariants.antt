use Rattle.std.proofs.Common.{◌≡◌, map, take}
use Rattle.rank_check.specs.View.{mark_of}
use Rattle.rank_search.specs.Naming.{names_at, opened, marks_in}
use Rattle.rank_search.proofs.naming.take_marks.Given as goal

abbrev pub invariant-naming : goal.invariant-naming
invariant-naming l = record {
  opened_so_far : l.nodes ≡ opened (take l.at (names_at l.names l.order)) l.fn.nodes;
  marks_so_far : map mark_of l.marks.items
      ≡ marks_in l.way (take l.at (names_at l.names l.order)) l.fn.nodes;
}
