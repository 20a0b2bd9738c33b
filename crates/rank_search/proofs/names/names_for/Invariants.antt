use Rattle.std.proofs.Common.{◌≡◌, ◌<◌, ℕ, length}
use Rattle.abb_search.specs.search_tree.Cells.{cell_at}
use Rattle.rank_search.specs.Naming.{name_at}
use Rattle.rank_search.specs.Listing.{reached_of}
use Rattle.rank_search.specs.Names.{IsNameFor}
use Rattle.rank_search.proofs.names.names_for.Given as goal

abbrev pub invariant-naming : goal.invariant-naming
invariant-naming l = record {
  counted : l.leaf ≡ l.value-index;
  as_many : length l.names.items ≡ l.value-index;
  each : (j : ℕ) → j < l.value-index
      → IsNameFor l.listed (cell_at l.pool.payloads j).node.inside (reached_of l.reached j)
      (name_at l.names.items j);
}
