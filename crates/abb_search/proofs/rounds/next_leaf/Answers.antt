use Rattle.std.proofs.Common.{Option, refl, sym, subst, ◌∙◌}
use Rattle.node_evaluation.specs.tree_rules.Claim.{CostOver}
use Rattle.abb_search.specs.declared.rounds.Next.{Next}
use Rattle.abb_search.specs.Growing.{IsGrowingFor}
use Rattle.abb_search.specs.Rounds.{undercut_of, IsNext, RoundHolds}
use Rattle.abb_search.proofs.SameLemmas.{same_refl, same_trans}
use Rattle.abb_search.proofs.RoundLemmas.{undercut_same}
use Rattle.abb_search.proofs.rounds.next_leaf.Goals as goal

pub rounds-init : goal.rounds-init
rounds-init g c = record {
  same = same_refl g.E.Evaluator.past c.args.site.now c.args.growing.now;
  own = c.requires.own;
  makers = refl;
}

pub round-requires-clause-own : goal.round-requires-clause-own
round-requires-clause-own g c = c.rounds.invariant.own

pub round-requires-clause-growing : goal.round-requires-clause-growing
round-requires-clause-growing g c =
    let s = c.args.growing.now in
    let t = c.rounds.growing in
    let same = c.rounds.invariant.same in
    subst (λ (u : Option CostOver). IsGrowingFor g.E.Evaluator.past c.args.site.now u t)
    (sym (undercut_same c.args.goal.now s t same.best))
    (same.growing (undercut_of c.args.goal.now s) c.requires.growing)

pub rounds-preserved : goal.rounds-preserved
rounds-preserved g c = record {
  same =
      same_trans g.E.Evaluator.past c.args.site.now c.args.growing.now c.rounds.growing
      c.round.new.growing c.rounds.invariant.same c.round.ensures.same;
  own = c.round.ensures.own;
  makers = c.round.ensures.makers ∙ c.rounds.invariant.makers;
}

pub rounds-smaller : goal.rounds-smaller
rounds-smaller g c =
    subst
    (λ (o : Option Next). RoundHolds g.E.Evaluator.past c.args.site.now c.rounds.growing
    c.round.new.growing (undercut_of c.args.goal.now c.rounds.growing) o) c.in_default.is
    c.in_ok-next.ensures.holds

pub returns-in-Some-clause-next : goal.returns-in-Some-clause-next
returns-in-Some-clause-next g c =
    let p = c.args.site.now in
    let s = c.rounds.growing in
    let t = c.round.new.growing in
    subst (λ (u : Option CostOver). IsNext g.E.Evaluator.past p t u c.in-Some.next)
    (undercut_same c.args.goal.now c.args.growing.now s c.rounds.invariant.same.best)
    (subst
    (λ (o : Option Next). RoundHolds g.E.Evaluator.past p s t (undercut_of c.args.goal.now s) o)
    c.in-Some.is c.in_ok-next.ensures.holds)

pub returns-in-Some-clause-same : goal.returns-in-Some-clause-same
returns-in-Some-clause-same g c =
    same_trans g.E.Evaluator.past c.args.site.now c.args.growing.now c.rounds.growing
    c.round.new.growing c.rounds.invariant.same c.round.ensures.same

pub returns-in_err-next-clause-same : goal.returns-in_err-next-clause-same
returns-in_err-next-clause-same g c =
    same_trans g.E.Evaluator.past c.args.site.now c.args.growing.now c.rounds.growing
    c.round.new.growing c.rounds.invariant.same c.round.ensures.same
