use Rattle.std.specs.List.{slice_get}
use Rattle.std.proofs.Common.{◌≡◌, ◌<◌, ℕ, Some}
use Rattle.rank_search.specs.Found.{FoundAt}
use Rattle.rank_search.specs.Plants.{IsInside}
use Rattle.rank_search.proofs.plants.first_inside.Given as goal

abbrev pub invariant-looking : goal.invariant-looking
invariant-looking l = record {
  none : (k : ℕ) (f : FoundAt) → k < l.one-index → slice_get l.found k ≡ Some f
      → IsInside f.network l.inside l.value → ⊥;
  counted : l.at ≡ l.one-index;
}
