use Rattle.std.proofs.Common.{◌+◌, ◌<◌, length, Option, refl, sym, subst}
use Rattle.abb_search.specs.declared.rounds.Next.{Next}
use Rattle.abb_search.specs.Growing.{choice_of, ready_at}
use Rattle.abb_search.specs.Closing.{IsSpentFor}
use Rattle.abb_search.specs.Rounds.{RoundHolds}
use Rattle.abb_search.proofs.TurnLemmas.{chosen}
use Rattle.abb_search.proofs.SameLemmas.{same_refl}
use Rattle.abb_search.proofs.RoundLemmas.{round_settled}
use Rattle.abb_search.proofs.SpentLemmas.{spent_for}
use Rattle.abb_search.proofs.rounds.spend.Goals as goal

pub first_put_off-requires-clause-counted : goal.first_put_off-requires-clause-counted
first_put_off-requires-clause-counted g c = c.requires.growing.1.tree.counted

pub first_put_off-requires-clause-open : goal.first_put_off-requires-clause-open
first_put_off-requires-clause-open g c = c.requires.growing.1.are_open

pub tell_leaves-requires : goal.tell_leaves-requires
tell_leaves-requires g c = c.requires.growing.1.tree.counted

pub settle_from-requires-clause-growing : goal.settle_from-requires-clause-growing
settle_from-requires-clause-growing g c = c.requires.growing

pub returns-in-Some-clause-holds : goal.returns-in-Some-clause-holds
returns-in-Some-clause-holds g c = λ undercut growing next.
    let p = c.args.site.now in
    let s = c.args.growing.now in
    let t = c.settle_from.new.growing in
    subst (λ (o : Option Next). RoundHolds g.E.Evaluator.past p s t undercut o)
    (sym c.ends_at.ensures)
    (round_settled g.E.Evaluator.past p s t undercut c.in_ok-stopped.stopped
    c.in_ok-stopped.ensures.settles)

pub returns-clause-holds : goal.returns-clause-holds
returns-clause-holds g c = λ undercut growing next.
    let p = c.args.site.now in
    let s = c.args.growing.now in
    let at = c.args.leaf in
    let m = choice_of (ready_at s at) in
    let choice =
    chosen p c.problem.ensures.valid s growing at next.is_open c.is_pool.ensures.payloads
    c.is_pool.ensures.leaves m refl in
    let over =
    subst (λ n. s.budget < length s.pool.payloads + n) c.requires.options c.requires.over in
    subst (λ n. IsSpentFor p undercut s c.in_ok-ends.ends.items at n) (sym c.requires.options)
    (spent_for p c.problem.ensures.valid s growing at next.is_open c.is_pool.ensures.payloads
    c.is_pool.ensures.leaves undercut growing.tree.kept.undercut_positive
    next.settled next.least next.undercuts c.in_default.ensures.none c.in_ok-ends.ends.items
    c.in_ok-ends.ensures m choice over)

pub returns-clause-same : goal.returns-clause-same
returns-clause-same g c = same_refl g.E.Evaluator.past c.args.site.now c.args.growing.now
