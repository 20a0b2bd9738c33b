use Rattle.std.proofs.Common.{take}
use Rattle.rank_search.specs.Listing.{IsWithValues}
use Rattle.rank_search.proofs.listing.reach_all.Given as goal

abbrev pub invariant-reaching : goal.invariant-reaching
invariant-reaching l =
    IsWithValues l.fn.reached.items l.reached.items (take l.network-index l.networks)
