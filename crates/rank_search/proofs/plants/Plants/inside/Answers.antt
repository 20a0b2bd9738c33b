use Rattle.std.proofs.Common.{◌≡◌, List, sym, ◌∙◌, subst}
use Rattle.std.proofs.lemmas.Option.{get_or_from_slice_get}
use Rattle.rank_search.specs.Found.{FoundAt}
use Rattle.rank_search.specs.Plants.{IsFirstInside, IsInList, IsInside}
use Rattle.rank_search.proofs.PlantLemmas.{in_at}
use Rattle.rank_search.proofs.plants.Plants.inside.Goals as goal

pub returns : goal.returns
returns c =
    let fs = c.self.inside.found.items in
    let at = c.in_ok-at.at in
    let first : IsFirstInside c.self.inside.found.items c.args.inside c.args.value.now c.in_ok-at.at
    = subst (λ (gs : List FoundAt). IsFirstInside gs c.args.inside c.args.value.now c.in_ok-at.at)
    c.deref.ensures.value c.in_ok-at.ensures.some in
    let one : first.one ≡ c.index.result.now =
    sym
    (c.index.ensures
    ∙ get_or_from_slice_get fs at first.one c.index.result.now first.there) in
    let listed : IsInList c.behind-self.inside.network c.self.inside.found.items
    = subst (λ (f : FoundAt). IsInList f.network c.self.inside.found.items)
    (one ∙ sym c.behind-self.view_is) (in_at fs at first.one first.there) in (
      subst (λ (gs : List FoundAt). IsInList c.behind-self.inside.network gs) c.self.view_is listed,
      subst (λ (f : FoundAt). IsInside f.network c.args.inside c.args.value.now)
          (one ∙ sym c.behind-self.view_is) first.is_inside,
    )
