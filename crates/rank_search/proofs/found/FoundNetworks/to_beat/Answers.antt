use Rattle.std.proofs.Common.{◌≡◌, ◌-◌, ◌≤◌, List, length, Some, sym, ap, ◌∙◌, subst, arith}
use Rattle.std.specs.List.{slice_get}
use Rattle.rank_check.specs.rank_rules.Networks.{cost_of}
use Rattle.rank_search.specs.Found.{FoundAt}
use Rattle.rank_search.specs.Listed.{Listed, IsListed}
use Rattle.rank_search.proofs.CostLemmas.{last_undercut}
use Rattle.rank_search.proofs.found.FoundNetworks.to_beat.Goals as goal

pub returns : goal.returns
returns c =
    let l = c.args.self.now in
    let listed : IsListed l = subst IsListed c.self.view_is c.self.invariant in
    let same : c.deref.result.now ≡ l.found =
    c.deref.ensures.value ∙ ap (λ (k : Listed). k.found) c.self.view_is in
    let full : l.count ≤ length l.found =
    grind (arith, c.if-len-self.false, c.len.ensures, c.self.view_is) in
    let get : slice_get l.found (length l.found - 1) ≡ Some c.in_ok-last.last.now =
    subst (λ (fs : List FoundAt). slice_get fs (length fs - 1) ≡ Some c.in_ok-last.last.now)
    same (sym c.in_ok-last.ensures.value) in
    ap (λ (u : FoundAt). Some (cost_of u.network)) c.last-2.view_is
    ∙ last_undercut l listed full (length l.found - 1) c.in_ok-last.last.now
    (let a = listed.asked in omega (arith, a, full)) get
