use Rattle.std.proofs.Common.{Option, sym, ◌∙◌, subst}
use Rattle.abb_search.proofs.ReadyLemmas.{first_has}
use Rattle.abb_search.proofs.ShutTreeLemmas.{refuted_all}
use Rattle.abb_search.proofs.TurnLemmas.{whole, there}
use Rattle.abb_search.specs.declared.rounds.Next.{Next}
use Rattle.abb_search.specs.Rounds.{undercut_of, RoundHolds}
use Rattle.abb_search.proofs.SameLemmas.{same_refl}
use Rattle.abb_search.proofs.RoundLemmas.{waits, round_settled}
use Rattle.abb_search.proofs.rounds.round.Goals as goal

pub returns-in_default-clause-holds : goal.returns-in_default-clause-holds
returns-in_default-clause-holds g c =
    let p = c.args.site.now in
    let s = c.args.growing.now in
    let undercut = undercut_of c.args.goal.now c.args.growing.now in
    refuted_all p s c.requires.growing c.in_ok-proofs.proofs.items c.in_ok-proofs.ensures
    (whole p s c.requires.growing (sym c.least.ensures ∙ c.in_default.is)) undercut

pub returns-in_default-clause-same : goal.returns-in_default-clause-same
returns-in_default-clause-same g c = same_refl g.E.Evaluator.past c.args.site.now c.args.growing.now

pub close-requires-clause-leaf : goal.close-requires-clause-leaf
close-requires-clause-leaf g c = sym c.least.ensures ∙ c.in-Some.is

pub is_settled-requires : goal.is_settled-requires
is_settled-requires g c =
    there c.args.site.now c.problem.ensures.valid c.args.growing.now c.requires.growing
    c.in-Some.leaf
    (first_has c.args.growing.now.pool.leaves c.in-Some.leaf
    (sym c.least.ensures ∙ c.in-Some.is)) c.is_pool.ensures.payloads c.is_pool.ensures.leaves

pub take_least-requires-clause-leaf : goal.take_least-requires-clause-leaf
take_least-requires-clause-leaf g c = sym c.least.ensures ∙ c.in-Some.is

pub take_least-requires-clause-settled : goal.take_least-requires-clause-settled
take_least-requires-clause-settled g c = sym c.is_settled.ensures ∙ c.if-is_settled.true

pub settle_leaf-requires-clause-growing : goal.settle_leaf-requires-clause-growing
settle_leaf-requires-clause-growing g c =
    (undercut_of c.args.goal.now c.args.growing.now, c.requires.growing)

pub settle_leaf-requires-clause-waits : goal.settle_leaf-requires-clause-waits
settle_leaf-requires-clause-waits g c =
    let s = c.args.growing.now in
    waits s c.in-Some.leaf
    (first_has s.pool.leaves c.in-Some.leaf (sym c.least.ensures ∙ c.in-Some.is))
    (sym c.is_settled.ensures ∙ c.if-is_settled.false)

pub returns-clause-holds : goal.returns-clause-holds
returns-clause-holds g c =
    let p = c.args.site.now in
    let s = c.args.growing.now in
    let t = c.settle_leaf.new.growing in
    let undercut = undercut_of c.args.goal.now c.args.growing.now in
    subst (λ (o : Option Next). RoundHolds g.E.Evaluator.past p s t undercut o)
    (sym c.ends_at.ensures)
    (round_settled g.E.Evaluator.past p s t undercut c.in_ok-stopped.stopped
    c.in_ok-stopped.ensures.settles)
