use Rattle.std.specs.List.{slice_get}
use Rattle.std.proofs.Common.{◌≡◌, ◌<◌, ◌+◌, ℕ, drop, length, Some}
use Rattle.rank_check.specs.tree_rules.Claim.{IsSized}
use Rattle.rank_search.specs.Found.{FoundAt}
use Rattle.rank_search.specs.Naming.{AreWithin, names_with, names_of}
use Rattle.rank_search.proofs.naming.names_of.Given as goal

abbrev pub invariant-naming : goal.invariant-naming
invariant-naming l = record {
  named : names_with l.names.items (l.number + 1) (drop l.one-index l.found)
      ≡ names_of l.nodes l.found;
  as_many : length l.names.items ≡ l.nodes;
  counted : l.number ≡ l.one-index;
  within : AreWithin l.nodes (drop l.one-index l.found);
  sized : (k : ℕ) (f : FoundAt) → k < l.one-index → slice_get l.found k ≡ Some f
      → IsSized f.network;
}
