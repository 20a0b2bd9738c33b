use Rattle.std.specs.Prelude.{drop}
use Rattle.std.proofs.Common.{◌≡◌, ◌++◌, ◌∷◌, List, take, sym, ap, subst, refl, rules}
use Rattle.rank_search.specs.Found.{FoundAt}
use Rattle.rank_search.specs.Listed.{Listed, AreNoDearer, AreDearer}
use Rattle.rank_search.proofs.PlaceLemmas.{added, listed_more}
use Rattle.rank_search.proofs.found.FoundNetworks.add.Goals as goal

pub invariant_of-self-2 : goal.invariant_of-self-2
invariant_of-self-2 c =
    let w = c.args.network in
    let at = c.place_for-at.result in
    let f : FoundAt = record { network = w; leaf = c.args.leaf } in
    let fs = c.self.inside.found.items in
    let old : Listed = record { count = c.self.inside.count; found = fs } in
    let low =
    subst (λ (gs : List FoundAt). AreNoDearer (take at gs) w) c.deref.ensures.value
    c.place_for-at.ensures.low in
    let high =
    subst (λ (gs : List FoundAt). AreDearer (drop at gs) w) c.deref.ensures.value
    c.place_for-at.ensures.high in
    let cut : c.truncate.new.self.items ≡ take c.self.inside.count (take at fs ++ f ∷ drop at fs) =
    search rules in
    let new : Listed = record { count = c.self.inside.count; found = c.truncate.new.self.items } in
    listed_more old new f c.self.invariant c.is_sized.ensures.sized.positive
    (added old new f at low high refl cut)
