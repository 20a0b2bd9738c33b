use Rattle.std.specs.Prelude.{slice_index_or}
use Rattle.std.proofs.Common.{List, Option, None, sym, subst, map}
use Rattle.abb_search.specs.search_tree.declared.shut.Shut.{Shut}
use Rattle.abb_search.specs.Closing.{ShutAll, EndSome, LeavesOpen, IsSpentFor}
use Rattle.abb_search.specs.declared.rounds.Ending.{Ending}
use Rattle.rank_check.specs.rank_rules.Text.{Text}
use Rattle.rank_check.specs.View.{mark_of}
use Rattle.rank_search.specs.declared.outcome.Ranked.TheVariants as ranks
use Rattle.rank_search.specs.DistinctListed.{IsListedBy}
use Rattle.rank_search.specs.Listing.{goal_of}
use Rattle.rank_search.specs.DistinctTurns.{EndsAs}
use Rattle.rank_search.proofs.DistinctToldLemmas.{spent_listed, past_listed}
use Rattle.rank_search.proofs.distinct_told.listed_by.Goals as goal

pub tell_whole-requires-clause-shut : goal.tell_whole-requires-clause-shut
tell_whole-requires-clause-shut g c =
    let l = c.args.listing in
    subst
    (λ (ms : List (Option Shut)). ShutAll c.args.site.now c.args.growing.now
    (goal_of l.count l.plants) ms) (sym c.deref.ensures.value)
    (subst (λ (e : Ending). EndsAs g.E.Evaluator.past c.args.site.now c.args.growing.now l e)
    c.in-Whole.is c.requires.ends)

pub tell_stopped-requires-clause-ends : goal.tell_stopped-requires-clause-ends
tell_stopped-requires-clause-ends g c =
    let ends =
    subst
    (λ (e : Ending). EndsAs g.E.Evaluator.past c.args.site.now c.args.growing.now
    c.args.listing e) c.in-Spent.is c.requires.ends in
    subst (λ (ms : List (Option Shut)). EndSome c.args.site.now c.args.growing.now None ms)
    (sym c.deref-in-Spent.ensures.value) ends.ends

pub tell_stopped-requires-clause-stays : goal.tell_stopped-requires-clause-stays
tell_stopped-requires-clause-stays g c =
    let ends =
    subst
    (λ (e : Ending). EndsAs g.E.Evaluator.past c.args.site.now c.args.growing.now
    c.args.listing e) c.in-Spent.is c.requires.ends in
    subst (λ (ms : List (Option Shut)). LeavesOpen (slice_index_or ms c.in-Spent.leaf None))
    (sym c.deref-in-Spent.ensures.value) ends.stays

pub tell_stopped-requires-in-Past-clause-ends : goal.tell_stopped-requires-in-Past-clause-ends
tell_stopped-requires-in-Past-clause-ends g c = λ j lt. tt

pub tell_stopped-requires-in-Past-clause-stays : goal.tell_stopped-requires-in-Past-clause-stays
tell_stopped-requires-in-Past-clause-stays g c = tt

pub returns-in_ok-told-in-Spent : goal.returns-in_ok-told-in-Spent
returns-in_ok-told-in-Spent g c =
    let p = c.args.site.now in
    let s = c.args.growing.now in
    let l = c.args.listing in
    let told = c.in_ok-told-in-Spent.told in
    let ends =
    subst (λ (e : Ending). EndsAs g.E.Evaluator.past p s l e) c.in-Spent.is c.requires.ends in
    let spent =
    subst
    (λ (ms : List (Option Shut)). IsSpentFor p None s ms c.in-Spent.leaf c.in-Spent.options)
    (sym c.deref-in-Spent.ensures.value) ends in
    subst (λ (t : Text). IsListedBy g.E.Evaluator.past p l.count s.budget (ranks.Spent t))
    (sym c.text_of-in-Spent.ensures)
    (spent_listed g.E.Evaluator.past p l.count s.budget told.networks.items told.tree
    (map mark_of told.marks.items) told.place c.in-Spent.options
    c.in_ok-told-in-Spent.ensures.tells
    (c.in_ok-told-in-Spent.ensures.spent c.in-Spent.options spent))

pub returns-in_ok-told-in-Past : goal.returns-in_ok-told-in-Past
returns-in_ok-told-in-Past g c =
    let p = c.args.site.now in
    let s = c.args.growing.now in
    let l = c.args.listing in
    let told = c.in_ok-told-in-Past.told in
    let ends =
    subst (λ (e : Ending). EndsAs g.E.Evaluator.past p s l e) c.in-Past.is c.requires.ends in
    subst (λ (t : Text). IsListedBy g.E.Evaluator.past p l.count s.budget (ranks.Past t))
    (sym c.text_of-in-Past.ensures)
    (past_listed g.E.Evaluator.past p l.count s.budget told.networks.items told.tree
    (map mark_of told.marks.items) told.place s c.in-Past.stopped
    c.in_ok-told-in-Past.ensures.tells ends
    (c.requires.kept.kept.sound c.in-Past.stopped.leaf ends.there)
    c.in_ok-told-in-Past.ensures.open)
