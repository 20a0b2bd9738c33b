use Rattle.std.specs.Prelude.{drop}
use Rattle.std.proofs.Common.{◌≡◌, ◌++◌, ◌∷◌, List, take, sym, ◌∙◌, subst, rules}
use Rattle.rank_search.specs.Found.{FoundAt, AreRising}
use Rattle.rank_search.specs.Listed.{AreScaled, AreNoDearer, AreDearer}
use Rattle.rank_search.specs.Plants.{AreDistinct, IsFirstInside, NoneInside, IsAdded}
use Rattle.rank_search.proofs.PlantLemmas.{Sifts, sifts, kept_distinct, scaled_of, some_there}
use Rattle.rank_search.proofs.PlantLemmas.{none_there, none_inside, added_inside, put_distinct}
use Rattle.rank_search.proofs.PlantLemmas.{put_added}
use Rattle.rank_search.proofs.plants.Plants.add.Goals as goal

pub returns-then-is_some : goal.returns-then-is_some
returns-then-is_some c =
    let w = c.args.network in
    let at =
    some_there c.first_inside.result
    (λ k. IsFirstInside c.deref.result.now c.units.result c.value_of.result k)
    (sym c.is_some.ensures ∙ c.if-is_some.true) c.first_inside.ensures.some in
    let here : IsFirstInside c.args.self.now c.args.network.units c.value_of.result at.0 =
    subst (λ us. IsFirstInside c.args.self.now us c.value_of.result at.0) c.units.ensures
    (subst (λ (fs : List FoundAt). IsFirstInside fs c.units.result c.value_of.result at.0)
    (c.deref.ensures.value ∙ c.self.view_is) at.1) in
    added_inside c.args.self.now w c.value_of.result at.0
    (subst AreDistinct c.self.view_is c.self.invariant) c.is_sized.ensures.sized
    c.value_of.ensures here

pub place_for-at-requires-clause-rising : goal.place_for-at-requires-clause-rising
place_for-at-requires-clause-rising c =
    let w = c.args.network in
    let old = c.self.inside.found.items in
    let ks = c.retain.new.self.items in
    let kept : Sifts c.args.network c.self.inside.found.items c.retain.new.self.items =
    sifts w _ _ (λ x b f' k. (search rules, search rules)) old ks c.retain.ensures.filtered in
    let now = kept_distinct w old ks kept c.self.invariant in
    subst (λ (fs : List FoundAt). AreRising fs) (sym c.deref-2.ensures.value) now.rising

pub place_for-at-requires-clause-scaled : goal.place_for-at-requires-clause-scaled
place_for-at-requires-clause-scaled c =
    let w = c.args.network in
    let old = c.self.inside.found.items in
    let ks = c.retain.new.self.items in
    let kept : Sifts c.args.network c.self.inside.found.items c.retain.new.self.items =
    sifts w _ _ (λ x b f' k. (search rules, search rules)) old ks c.retain.ensures.filtered in
    let now = kept_distinct w old ks kept c.self.invariant in
    subst (λ (fs : List FoundAt). AreScaled fs) (sym c.deref-2.ensures.value)
    (scaled_of ks now.sized)

pub invariant_of-self : goal.invariant_of-self
invariant_of-self c =
    let w = c.args.network in
    let old = c.self.inside.found.items in
    let ks = c.retain.new.self.items in
    let kept : Sifts c.args.network c.self.inside.found.items c.retain.new.self.items =
    sifts w _ _ (λ x b f' k. (search rules, search rules)) old ks c.retain.ensures.filtered in
    let same : c.insert.new.self.items ≡ c.retain.new.self.items = c.in_err-insert.ensures.items in
    subst AreDistinct (sym same) (kept_distinct w old ks kept c.self.invariant)

pub invariant_of-self-2 : goal.invariant_of-self-2
invariant_of-self-2 c =
    let w = c.args.network in
    let old = c.self.inside.found.items in
    let ks = c.retain.new.self.items in
    let at = c.place_for-at.result in
    let f : FoundAt = record { network = c.args.network; leaf = c.args.leaf } in
    let kept : Sifts c.args.network c.self.inside.found.items c.retain.new.self.items =
    sifts w _ _ (λ x b f' k. (search rules, search rules)) old ks c.retain.ensures.filtered in
    let none : NoneInside c.self.inside.found.items c.args.network.units c.value_of.result =
    subst (λ us. NoneInside c.self.inside.found.items us c.value_of.result) c.units.ensures
    (subst (λ (fs : List FoundAt). NoneInside fs c.units.result c.value_of.result)
    c.deref.ensures.value
    (none_there c.first_inside.result
    (NoneInside c.deref.result.now c.units.result c.value_of.result)
    (sym c.is_some.ensures ∙ c.if-is_some.false) c.first_inside.ensures.none)) in
    let low =
    subst (λ (fs : List FoundAt). AreNoDearer (take at fs) w) c.deref-2.ensures.value
    c.place_for-at.ensures.low in
    let high =
    subst (λ (fs : List FoundAt). AreDearer (drop at fs) w) c.deref-2.ensures.value
    c.place_for-at.ensures.high in
    let new : c.insert.new.self.items ≡ take at ks ++ f ∷ drop at ks = search rules in
    subst AreDistinct (sym new)
    (put_distinct old ks f at c.self.invariant c.is_sized.ensures.sized
    (none_inside old w c.value_of.result c.value_of.ensures none) kept low high)

pub returns : goal.returns
returns c =
    let w = c.args.network in
    let old = c.self.inside.found.items in
    let ks = c.retain.new.self.items in
    let at = c.place_for-at.result in
    let f : FoundAt = record { network = c.args.network; leaf = c.args.leaf } in
    let kept : Sifts c.args.network c.self.inside.found.items c.retain.new.self.items =
    sifts w _ _ (λ x b f' k. (search rules, search rules)) old ks c.retain.ensures.filtered in
    let none : NoneInside c.self.inside.found.items c.args.network.units c.value_of.result =
    subst (λ us. NoneInside c.self.inside.found.items us c.value_of.result) c.units.ensures
    (subst (λ (fs : List FoundAt). NoneInside fs c.units.result c.value_of.result)
    c.deref.ensures.value
    (none_there c.first_inside.result
    (NoneInside c.deref.result.now c.units.result c.value_of.result)
    (sym c.is_some.ensures ∙ c.if-is_some.false) c.first_inside.ensures.none)) in
    let low =
    subst (λ (fs : List FoundAt). AreNoDearer (take at fs) w) c.deref-2.ensures.value
    c.place_for-at.ensures.low in
    let high =
    subst (λ (fs : List FoundAt). AreDearer (drop at fs) w) c.deref-2.ensures.value
    c.place_for-at.ensures.high in
    let new : c.insert.new.self.items ≡ take at ks ++ f ∷ drop at ks = search rules in
    subst (λ (fs : List FoundAt). IsAdded fs c.insert.new.self.items c.args.network)
    c.self.view_is
    (subst (λ (fs : List FoundAt). IsAdded old fs c.args.network) (sym new)
    (put_added old ks f at c.self.invariant c.is_sized.ensures.sized
    (none_inside old w c.value_of.result c.value_of.ensures none) kept low high))
