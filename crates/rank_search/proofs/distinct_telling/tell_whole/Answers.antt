use Rattle.std.proofs.Common.{false, true, None, List, map, sym, subst}
use Rattle.rank_check.specs.tree_rules.Claim.{Network}
use Rattle.rank_check.specs.View.{mark_of}
use Rattle.rank_search.specs.Told.{IsTellingOf}
use Rattle.rank_search.proofs.NamedLeafLemmas.{all_close}
use Rattle.rank_search.specs.Listing.{goal_of}
use Rattle.rank_search.proofs.DistinctTellingLemmas.{is_list, with_two}
use Rattle.rank_search.proofs.distinct_telling.tell_whole.Goals as goal

pub returns : goal.returns
returns c =
    let p = c.args.site.now in
    let s = c.args.growing.now in
    let l = c.args.listing in
    let ms = c.args.proofs.now in
    with_two c.tell.result
    (λ t n of. subst
    (λ (ws : List Network). IsTellingOf true false p l.count None ws t.tree
    (map mark_of t.marks.items)) (sym n)
    (is_list p c.problem.ensures.valid s c.requires.kept c.requires.start l.count c.requires.asked
    l.plants l.reached.items c.tell.ensures.distinct c.requires.listing ms 0 t.place t.tree
    (map mark_of t.marks.items) of false
    (all_close p s (goal_of l.count l.plants) ms c.requires.shut)))
    c.tell.ensures.networks c.tell.ensures.tree
