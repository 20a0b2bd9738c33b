use Rattle.std.proofs.Common.{◌∙◌, Option, subst}
use Rattle.node_evaluation.specs.pgraph.View.{node_of}
use Rattle.node_evaluation.specs.Looks.{cost_of}
use Rattle.abb_search.specs.declared.outcome.Found.{Found}
use Rattle.abb_search.specs.Answers.{IsMore, IsEnd, StepHolds}
use Rattle.abb_search.proofs.StepLemmas.{going_positive, fallen_trans, against_after}
use Rattle.abb_search.proofs.runs.run.Goals as goal

pub turns-preserved : goal.turns-preserved
turns-preserved g c =
    let Past = g.E.Evaluator.past in
    let p = c.args.site.now in
    let root = c.args.root in
    let s = c.turns.growing in
    let inv = c.turns.invariant in
    let more : IsMore Past p s c.step.new.growing =
    subst (λ (o : Option Found). StepHolds Past p s c.step.new.growing o)
    c.in-Ok-None.field-0-is c.in-Ok-None.ensures.holds in
    record {
      own = c.step.ensures.own;
      makers = c.step.ensures.makers ∙ inv.makers;
      going = more.going;
      start = more.start ∙ inv.start;
      budget = more.budget ∙ inv.budget;
      fallen =
          fallen_trans (cost_of root.best) (cost_of s.best) (cost_of c.step.new.growing.best)
          (going_positive Past p root c.requires.going) (going_positive Past p s inv.going)
          more.positive inv.fallen more.fallen;
    }

pub returns-in-Ok-Some-clause-against : goal.returns-in-Ok-Some-clause-against
returns-in-Ok-Some-clause-against g c =
    let Past = g.E.Evaluator.past in
    let p = c.args.site.now in
    let root = c.args.root in
    let s = c.turns.growing in
    let inv = c.turns.invariant in
    let found = c.in-Ok-Some.found in
    let end : IsEnd Past p s c.step.new.growing found =
    subst (λ (o : Option Found). StepHolds Past p s c.step.new.growing o)
    c.in-Ok-Some.field-0-is c.in-Ok-Some.ensures.holds in
    against_after Past p (node_of s.start) s.budget root.best s.best found end.is_found
    (going_positive Past p root c.requires.going) (going_positive Past p s inv.going) inv.fallen
    end.against
