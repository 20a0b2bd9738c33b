use Rattle.std.proofs.Common.{rules, ◌≡◌, refl, sym, ap, ◌∙◌, subst, Option, Some}
use Rattle.node_evaluation.specs.tree_rules.Claim as claims
use Rattle.node_evaluation.specs.tree_rules.Claim.{claimed_cost}
use Rattle.node_evaluation.specs.search_tree.Preorder.{IsTreeOf}
use Rattle.node_evaluation.specs.search_tree.Shut.{shut_cells}
use Rattle.node_evaluation.specs.Children.{claim_with}
use Rattle.abb_search.specs.declared.outcome.Found.{Found}
use Rattle.abb_search.specs.declared.outcome.Found.TheVariants as founds
use Rattle.abb_search.specs.declared.growing.Growing.{Growing}
use Rattle.abb_search.specs.declared.rounds.Ending.{Ending}
use Rattle.abb_search.specs.Found.{found_with}
use Rattle.abb_search.specs.Rounds.{EndsWith}
use Rattle.abb_search.specs.Answers.{past_with, IsEnd, StepHolds}
use Rattle.abb_search.proofs.EndLemmas.{past_found, spent_found}
use Rattle.abb_search.proofs.ShutTreeLemmas.{closed_found, closed_tree}
use Rattle.abb_search.proofs.SpentLemmas.{spent, spent_here}
use Rattle.abb_search.proofs.StepLemmas.{ends_with, network_found, never_memory}
use Rattle.abb_search.proofs.step.found_by.Goals as goal

pub returns-in_ok-whole-in-Whole-clause-holds : goal.returns-in_ok-whole-in-Whole-clause-holds
returns-in_ok-whole-in-Whole-clause-holds g c =
    let p = c.args.site.now in
    let s = c.args.growing.now in
    let t = c.requires.kept in
    let new : Growing =
    record {
      start = s.start;
      budget = s.budget;
      nodes = s.nodes;
      pool = s.pool;
      ready =
          s.ready;
      best = c.take.new.self;
      stop = s.stop;
    } in
    let w = c.in_ok-whole-in-Whole.whole in
    let ms = c.in-Whole.proofs.items in
    let all =
    subst (λ (x : Ending). EndsWith g.E.Evaluator.past p s (claimed_cost (claim_with s.best)) x)
    c.in-Whole.is c.requires.ends in
    let of : IsTreeOf (shut_cells ms s.pool.payloads) 0 w.tree w.place = search rules in
    let e : c.whole_found.result ≡ found_with s.best w.tree =
    c.whole_found.ensures
    ∙ ap (λ (b : Option claims.Network). found_with b w.tree) c.take.ensures.value in
    subst (λ (f : Found). IsEnd g.E.Evaluator.past p s new f) (sym e)
    (ends_with g.E.Evaluator.past p s new (found_with s.best w.tree) t
    (closed_found p s t ms all g.E.Evaluator.past w.place w.tree of
    c.in_ok-whole-in-Whole.ensures.sized s.budget)
    (never_memory s.best w.tree) (network_found s.best w.tree) refl refl refl refl)

pub shut_tree-requires-clause-leaf : goal.shut_tree-requires-clause-leaf
shut_tree-requires-clause-leaf g c = c.requires.kept.kept.grown.linked.some

pub returns-in_ok-placed-in-Spent-clause-holds : goal.returns-in_ok-placed-in-Spent-clause-holds
returns-in_ok-placed-in-Spent-clause-holds g c =
    let p = c.args.site.now in
    let s = c.args.growing.now in
    let t = c.requires.kept in
    let at = c.in-Spent.leaf in
    let count = c.in-Spent.options in
    let new : Growing =
    record {
      start = s.start;
      budget = s.budget;
      nodes = s.nodes;
      pool = s.pool;
      ready =
          s.ready;
      best = c.take-in-Spent.new.self;
      stop = s.stop;
    } in
    let w = c.in_ok-placed-in-Spent.placed in
    let ms = c.in-Spent.ends.items in
    let f =
    subst (λ (x : Ending). EndsWith g.E.Evaluator.past p s (claimed_cost (claim_with s.best)) x)
    c.in-Spent.is c.requires.ends in
    let of : IsTreeOf (shut_cells ms s.pool.payloads) at w.tree w.place = search rules in
    subst
    (λ (b : Option claims.Network). IsEnd g.E.Evaluator.past p s new
    (founds.Spent b w.tree w.place count)) (sym c.take-in-Spent.ensures.value)
    (ends_with g.E.Evaluator.past p s new (founds.Spent s.best w.tree w.place count) t
    (spent_found p (spent p s t ms at count f) (closed_tree p s t ms f.ends) at w.place w.tree of
    c.in_ok-placed-in-Spent.ensures.sized c.problem.ensures.valid count s.budget s.start refl
    refl
    (spent_here p s t ms at count f))
    (λ (q : founds.Spent s.best w.tree w.place count ≡ founds.Memory). cc) refl refl refl refl refl)

pub tree_with-requires-clause-leaf : goal.tree_with-requires-clause-leaf
tree_with-requires-clause-leaf g c =
    let at =
    subst
    (λ (x : Ending). EndsWith g.E.Evaluator.past c.args.site.now c.args.growing.now
    (claimed_cost (claim_with c.args.growing.now.best)) x) c.in-Past.is c.requires.ends in
    at.there

pub returns-in_ok-placed-in-Past-clause-holds : goal.returns-in_ok-placed-in-Past-clause-holds
returns-in_ok-placed-in-Past-clause-holds g c =
    let p = c.args.site.now in
    let s = c.args.growing.now in
    let t = c.requires.kept in
    let h = c.in-Past.stopped in
    let w = c.in_ok-placed-in-Past.placed in
    let at =
    subst (λ (x : Ending). EndsWith g.E.Evaluator.past p s (claimed_cost (claim_with s.best)) x)
    c.in-Past.is c.requires.ends in
    let new : Growing =
    record {
      start = s.start;
      budget = s.budget;
      nodes = s.nodes;
      pool = s.pool;
      ready =
          s.ready;
      best = c.take-in-Past.new.self;
      stop = s.stop;
    } in
    let e : c.past_found.result ≡ past_with s.best (Some h) w.tree w.place =
    c.past_found.ensures
    ∙ ap (λ (b : Option claims.Network). past_with b (Some h) w.tree w.place)
    c.take-in-Past.ensures.value in
    subst (λ (f : Option Found). StepHolds g.E.Evaluator.past p s new f) (sym e)
    (ends_with g.E.Evaluator.past p s new
    (founds.Past s.best w.tree w.place h.stop.nonbasic h.stop.place) t
    (past_found p s t h.leaf w.place w.tree c.in_ok-placed-in-Past.ensures.tree
    c.in_ok-placed-in-Past.ensures.sized g.E.Evaluator.past h.stop s.start refl at)
    (λ (q : founds.Past s.best w.tree w.place h.stop.nonbasic h.stop.place ≡ founds.Memory). cc)
    refl refl refl refl refl)
