use Rattle.std.proofs.Common.{Option, inl, inr, true≢false, refl, sym, subst}
use Rattle.abb_search.specs.declared.rounds.Next.{Next}
use Rattle.abb_search.specs.Rounds.{undercut_of, RoundHolds}
use Rattle.abb_search.proofs.ReadyLemmas.{first_has}
use Rattle.abb_search.proofs.SameLemmas.{same_refl}
use Rattle.abb_search.proofs.TurnLemmas.{there}
use Rattle.abb_search.proofs.RoundLemmas.{undercuts_or_past, round_settled}
use Rattle.abb_search.proofs.rounds.take_least.Goals as goal
use Rattle.abb_search.proofs.rounds.take_least.Goals.{then-leads+else-may_be_undercut}
use Rattle.abb_search.proofs.rounds.take_least.Goals.{else-leads+in_default}

pub may_be_undercut-requires : goal.may_be_undercut-requires
may_be_undercut-requires g c =
    there c.args.site.now c.problem.ensures.valid c.args.growing.now c.requires.growing c.args.leaf
    (first_has c.args.growing.now.pool.leaves c.args.leaf c.requires.leaf)
    c.is_pool.ensures.payloads c.is_pool.ensures.leaves

pub branch_least-requires-clause-next : goal.branch_least-requires-clause-next
branch_least-requires-clause-next g c = record {
  is_open = first_has c.args.growing.now.pool.leaves c.args.leaf c.requires.leaf;
  settled = c.requires.settled;
  least = c.leads.ensures.least c.if-leads.true;
  undercuts = c.if-may_be_undercut.ensures.0 refl;
}

pub settle_leaf-requires-clause-growing : goal.settle_leaf-requires-clause-growing
settle_leaf-requires-clause-growing g c =
    (undercut_of c.args.goal.now c.args.growing.now, c.requires.growing)

pub returns-in-Some-clause-holds : goal.returns-in-Some-clause-holds
returns-in-Some-clause-holds g c =
    let p = c.args.site.now in
    let s = c.args.growing.now in
    let t = c.settle_leaf.new.growing in
    let undercut = undercut_of c.args.goal.now s in
    subst (λ (o : Option Next). RoundHolds g.E.Evaluator.past p s t undercut o)
    (sym c.ends_at.ensures)
    (round_settled g.E.Evaluator.past p s t undercut c.in_ok-stopped.stopped
    c.in_ok-stopped.ensures.settles)

pub returns-clause-holds : goal.returns-clause-holds
returns-clause-holds g c =
    let s = c.args.growing.now in
    let at = c.args.leaf in
    record {
      is_open = first_has s.pool.leaves at c.requires.leaf;
      past = elim c.if-leads.branch [
        | then-leads+else-may_be_undercut w ↦
            undercuts_or_past s (undercut_of c.args.goal.now s) at c.requires.below
            (λ may. true≢false (sym (w.if-may_be_undercut.ensures.1 may)))
        | else-leads+in_default w ↦ c.leads.ensures.interval w.if-leads.false
      ];
      held_up = elim c.if-leads.branch [
        | then-leads+else-may_be_undercut w
            ↦ inr (λ may. true≢false (sym (w.if-may_be_undercut.ensures.1 may)))
        | else-leads+in_default w ↦ inl (c.leads.ensures.held_up w.if-leads.false)
      ];
    }

pub returns-clause-same : goal.returns-clause-same
returns-clause-same g c = same_refl g.E.Evaluator.past c.args.site.now c.args.growing.now
