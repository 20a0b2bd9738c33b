use Rattle.std.proofs.Common.{ℕ, length, false, List, map, sym, subst}
use Rattle.rank_check.specs.tree_rules.Claim.{Network}
use Rattle.rank_check.specs.View.{mark_of}
use Rattle.rank_search.specs.Found.{undercut_by}
use Rattle.rank_search.specs.Naming.{AreWithin}
use Rattle.rank_search.specs.Told.{IsTelling}
use Rattle.rank_search.proofs.NamedLeafLemmas.{all_close}
use Rattle.rank_search.proofs.NameLemmas.{within_all}
use Rattle.rank_search.proofs.TellingLemmas.{is_telling, with_three}
use Rattle.rank_search.proofs.telling.tell_whole.Goals as goal

pub tell-requires-clause-within : goal.tell-requires-clause-within
tell-requires-clause-within c =
    let best = c.requires.best in
    subst (λ (n : ℕ). AreWithin n c.args.found.found) (sym c.requires.kept.counted)
    (within_all (length c.args.growing.now.pool.payloads) c.args.found.found
    (λ k f h. (best.there k f h).there))

pub returns-clause-tells : goal.returns-clause-tells
returns-clause-tells c =
    let p = c.args.site.now in
    let s = c.args.growing.now in
    let fs = c.args.found.found in
    let ms = c.args.proofs.now in
    with_three c.tell.result
    (λ t n of sized. subst
    (λ (ws : List Network). IsTelling false p c.args.found.count ws t.tree
    (map mark_of t.marks.items)) (sym n)
    (is_telling p c.problem.ensures.valid c.args.found.count s fs c.requires.kept c.requires.start
    c.requires.best ms 0 t.place t.tree (map mark_of t.marks.items) of false
    (all_close p s (undercut_by c.args.found.count fs) ms c.requires.shut) sized
    c.tell.ensures.asked))
    c.tell.ensures.networks c.tell.ensures.tree c.tell.ensures.sized
