use Rattle.std.proofs.Common.{true, None, List, map, sym, subst}
use Rattle.rank_check.specs.tree_rules.Claim.{Network}
use Rattle.rank_check.specs.rank_rules.declared.naming.Naming.TheVariants.{Within}
use Rattle.rank_check.specs.View.{mark_of}
use Rattle.rank_search.specs.Told.{IsTellingOf}
use Rattle.rank_search.proofs.TellingLemmas.{stands_open, spent_telling}
use Rattle.rank_search.specs.Listing.{goal_of}
use Rattle.rank_search.proofs.DistinctTellingLemmas.{is_list, stopped_closes, with_two}
use Rattle.rank_search.proofs.distinct_telling.tell_stopped.Goals as goal

pub returns-clause-tells : goal.returns-clause-tells
returns-clause-tells c =
    let p = c.args.site.now in
    let s = c.args.growing.now in
    let l = c.args.listing in
    let ms = c.args.proofs.now in
    with_two c.tell.result
    (λ t n of. subst
    (λ (ws : List Network). IsTellingOf true true p l.count None ws t.tree
    (map mark_of t.marks.items)) (sym n)
    (is_list p c.problem.ensures.valid s c.requires.kept c.requires.start l.count c.requires.asked
    l.plants l.reached.items c.tell.ensures.distinct c.requires.listing ms c.args.leaf t.place
    t.tree (map mark_of t.marks.items) of true
    (stopped_closes p s (goal_of l.count l.plants) ms c.requires.ends)))
    c.tell.ensures.networks c.tell.ensures.tree

pub returns-clause-open : goal.returns-clause-open
returns-clause-open c =
    let p = c.args.site.now in
    let s = c.args.growing.now in
    let ms = c.args.proofs.now in
    with_two c.tell.result
    (λ t n of is. stands_open p c.problem.ensures.valid None s c.requires.kept c.requires.start
    Within of.names ms c.args.leaf t.place t.tree (map mark_of t.marks.items) of.named
    c.requires.leaf c.requires.stays is)
    c.tell.ensures.networks c.tell.ensures.tree

pub returns-clause-spent : goal.returns-clause-spent
returns-clause-spent c =
    let p = c.args.site.now in
    let s = c.args.growing.now in
    let ms = c.args.proofs.now in
    with_two c.tell.result
    (λ t n of options h. spent_telling p c.problem.ensures.valid None s c.requires.kept
    c.requires.start Within of.names ms c.args.leaf t.place t.tree (map mark_of t.marks.items)
    of.named c.requires.leaf c.requires.stays options h)
    c.tell.ensures.networks c.tell.ensures.tree
