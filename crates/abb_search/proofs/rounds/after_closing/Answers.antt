use Rattle.std.proofs.Common.{refl}
use Rattle.abb_search.specs.declared.closing.Closing.TheVariants.{Proved, Stopped}
use Rattle.abb_search.specs.Rounds.{undercut_of, ClosingHolds}
use Rattle.abb_search.proofs.TurnLemmas.{stopped_leaf}
use Rattle.abb_search.proofs.SameLemmas.{same_refl}
use Rattle.abb_search.proofs.rounds.after_closing.Goals as goal

pub returns-in-Proved-clause-holds : goal.returns-in-Proved-clause-holds
returns-in-Proved-clause-holds g c =
    let h : ClosingHolds g.E.Evaluator.past c.args.site.now c.args.growing.now
    (undercut_of c.args.goal.now c.args.growing.now) (Proved c.in-Proved.proofs) =
    rw c.in-Proved.is at c.requires.closing in
    h

pub returns-in-Proved-clause-same : goal.returns-in-Proved-clause-same
returns-in-Proved-clause-same g c = same_refl g.E.Evaluator.past c.args.site.now c.args.growing.now

pub may_be_undercut-requires : goal.may_be_undercut-requires
may_be_undercut-requires g c =
    let h : ClosingHolds g.E.Evaluator.past c.args.site.now c.args.growing.now
    (undercut_of c.args.goal.now c.args.growing.now) (Stopped c.in-Stopped.stopped) =
    rw c.in-Stopped.is at c.requires.closing in
    h.0.there

pub branch_least-requires-clause-next : goal.branch_least-requires-clause-next
branch_least-requires-clause-next g c =
    let h : ClosingHolds g.E.Evaluator.past c.args.site.now c.args.growing.now
    (undercut_of c.args.goal.now c.args.growing.now) (Stopped c.in-Stopped.stopped) =
    rw c.in-Stopped.is at c.requires.closing in
    let may = c.if-may_be_undercut.ensures.0 refl in
    record {
      is_open =
          stopped_leaf c.args.site.now c.args.growing.now c.requires.growing
          c.in-Stopped.stopped.leaf h.0.there h.0.is_open h.1;
      settled = h.1;
      least = h.2 may;
      undercuts = may;
    }

pub returns-else-may_be_undercut-clause-holds : goal.returns-else-may_be_undercut-clause-holds
returns-else-may_be_undercut-clause-holds g c =
    let h : ClosingHolds g.E.Evaluator.past c.args.site.now c.args.growing.now
    (undercut_of c.args.goal.now c.args.growing.now) (Stopped c.in-Stopped.stopped) =
    rw c.in-Stopped.is at c.requires.closing in
    h.0

pub returns-else-may_be_undercut-clause-same : goal.returns-else-may_be_undercut-clause-same
returns-else-may_be_undercut-clause-same g c =
    same_refl g.E.Evaluator.past c.args.site.now c.args.growing.now
