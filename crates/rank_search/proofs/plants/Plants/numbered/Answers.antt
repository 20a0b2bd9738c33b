use Rattle.std.proofs.Common.{◌≡◌, ◌-◌, List, Some, ap, ◌∙◌, subst, arith}
use Rattle.std.specs.List.{slice_get}
use Rattle.rank_check.specs.rank_rules.Networks.{cost_of}
use Rattle.rank_search.specs.Found.{FoundAt}
use Rattle.rank_search.proofs.NameLemmas.{item_there}
use Rattle.rank_search.proofs.DistinctNameLemmas.{numbered_some}
use Rattle.rank_search.proofs.plants.Plants.numbered.Goals as goal

pub returns : goal.returns
returns c =
    let n = c.args.number in
    let fs = c.args.self.now in
    let f = c.in_ok-one.one.now in
    let same : c.deref.result.now ≡ c.args.self.now = c.deref.ensures.value ∙ c.self.view_is in
    let found = c.in_ok-one.ensures.lookup in
    let there : slice_get c.args.self.now (c.args.number - 1) ≡ Some c.in_ok-one.one.now =
    subst (λ (gs : List FoundAt). slice_get gs (c.args.number - 1) ≡ Some c.in_ok-one.one.now) same
    (item_there c.deref.result.now (n - 1) f found.3.0 found.1) in
    ap (λ (u : FoundAt). Some (cost_of u.network)) c.one.view_is
    ∙ numbered_some n (n - 1) fs f (let a = c.requires in omega (arith, a)) there
