use Rattle.std.proofs.Common.{◌≡◌, refl, sym, ap, ◌∙◌, subst, Option, Some}
use Rattle.node_evaluation.specs.tree_rules.Claim as claims
use Rattle.abb_search.specs.declared.outcome.Found.{Found}
use Rattle.abb_search.specs.declared.outcome.Found.TheVariants as found
use Rattle.abb_search.specs.declared.growing.Growing.{Growing}
use Rattle.abb_search.specs.declared.growing.StoppedLeaf.{StoppedLeaf}
use Rattle.abb_search.specs.Growing.{IsStoppedAt, GoesOn}
use Rattle.abb_search.specs.Answers.{past_with, StepHolds}
use Rattle.abb_search.proofs.EndLemmas.{past_found}
use Rattle.abb_search.proofs.StepLemmas.{stopped_by, ends_with}
use Rattle.abb_search.proofs.step.step.Goals as goal

pub returns-clause-holds : goal.returns-clause-holds
returns-clause-holds g c =
    let p = c.args.site.now in
    let s = c.args.growing.now in
    let w = c.in_ok-placed.placed in
    let hb = stopped_by s.stop c.in-Some.leaf (sym c.stopped_leaf.ensures ∙ c.in-Some.is) in
    let going =
    subst (λ (o : Option StoppedLeaf). GoesOn g.E.Evaluator.past p s o) hb.is
    c.requires.going in
    let at = subst (λ i. IsStoppedAt g.E.Evaluator.past p s i hb.by.stop) hb.at_is going.1 in
    let new : Growing =
    record {
      start = s.start;
      budget = s.budget;
      nodes = s.nodes;
      pool = s.pool;
      ready =
          s.ready;
      best = c.take.new.self;
      stop = c.take-2.new.self;
    } in
    let e : c.past_found.result ≡ past_with s.best (Some hb.by) w.tree w.place
    = c.past_found.ensures
    ∙ (ap (λ (b : Option claims.Network). past_with b c.take-2.result w.tree w.place)
    c.take.ensures.value
    ∙ ap (λ (h : Option StoppedLeaf). past_with s.best h w.tree w.place)
    (c.take-2.ensures.value ∙ hb.is)) in
    subst (λ (f : Option Found). StepHolds g.E.Evaluator.past p s new f) (sym e)
    (ends_with g.E.Evaluator.past p s new
    (found.Past s.best w.tree w.place hb.by.stop.nonbasic hb.by.stop.place) going.0
    (past_found p s going.0 c.in-Some.leaf w.place w.tree c.in_ok-placed.ensures.tree
    c.in_ok-placed.ensures.sized g.E.Evaluator.past hb.by.stop s.start refl at)
    (λ (q : found.Past s.best w.tree w.place hb.by.stop.nonbasic hb.by.stop.place ≡ found.Memory).
    cc) refl refl refl refl refl)
