use Rattle.std.proofs.Common.{ℕ, length, true, List, map, sym, subst}
use Rattle.rank_check.specs.tree_rules.Claim.{Network}
use Rattle.rank_check.specs.View.{mark_of}
use Rattle.rank_search.specs.Found.{undercut_by}
use Rattle.rank_check.specs.rank_rules.declared.naming.Naming.TheVariants.{Only}
use Rattle.rank_search.specs.Naming.{AreWithin, names_of}
use Rattle.rank_search.specs.Told.{IsTelling, IsSpentTelling}
use Rattle.rank_search.proofs.NamedLeafLemmas.{some_close}
use Rattle.rank_search.proofs.NameLemmas.{within_all}
use Rattle.rank_search.proofs.TellingLemmas.{is_telling, stands_open, spent_telling, with_three}
use Rattle.rank_search.proofs.telling.tell_stopped.Goals as goal

pub tell-requires-clause-within : goal.tell-requires-clause-within
tell-requires-clause-within c =
    let best = c.requires.best in
    subst (λ (n : ℕ). AreWithin n c.args.found.found) (sym c.requires.kept.counted)
    (within_all (length c.args.growing.now.pool.payloads) c.args.found.found
    (λ k f h. (best.there k f h).there))

pub returns-clause-tells : goal.returns-clause-tells
returns-clause-tells c =
    let p = c.args.site.now in
    let s = c.args.growing.now in
    let fs = c.args.found.found in
    with_three c.tell.result
    (λ t n of sized. subst
    (λ (ws : List Network). IsTelling true p c.args.found.count ws t.tree
    (map mark_of t.marks.items)) (sym n)
    (is_telling p c.problem.ensures.valid c.args.found.count s fs c.requires.kept c.requires.start
    c.requires.best c.args.proofs.now c.args.leaf t.place t.tree (map mark_of t.marks.items) of
    true
    (some_close p s (undercut_by c.args.found.count fs) c.args.proofs.now c.requires.ends) sized
    c.tell.ensures.asked))
    c.tell.ensures.networks c.tell.ensures.tree c.tell.ensures.sized

pub returns-clause-open : goal.returns-clause-open
returns-clause-open c =
    let p = c.args.site.now in
    let s = c.args.growing.now in
    let fs = c.args.found.found in
    with_three c.tell.result
    (λ t n of sized is. stands_open p c.problem.ensures.valid
    (undercut_by c.args.found.count fs) s c.requires.kept c.requires.start Only
    (names_of (length s.pool.payloads) fs) c.args.proofs.now c.args.leaf t.place t.tree
    (map mark_of t.marks.items) of c.requires.leaf c.requires.stays is)
    c.tell.ensures.networks c.tell.ensures.tree c.tell.ensures.sized

pub returns-clause-spent : goal.returns-clause-spent
returns-clause-spent c =
    let p = c.args.site.now in
    let s = c.args.growing.now in
    let fs = c.args.found.found in
    with_three c.tell.result
    (λ t n of sized options h. subst
    (λ (ws : List Network). IsSpentTelling p c.args.found.count ws t.tree
    (map mark_of t.marks.items) t.place options s.budget) (sym n)
    (spent_telling p c.problem.ensures.valid (undercut_by c.args.found.count fs) s
    c.requires.kept c.requires.start Only (names_of (length s.pool.payloads) fs)
    c.args.proofs.now c.args.leaf t.place t.tree
    (map mark_of t.marks.items) of c.requires.leaf c.requires.stays options h))
    c.tell.ensures.networks c.tell.ensures.tree c.tell.ensures.sized
