use Rattle.std.proofs.Common.{ap, ◌∙◌, subst}
use Rattle.node_evaluation.specs.pgraph.View.{node_of}
use Rattle.node_evaluation.specs.Children.{claim_with}
use Rattle.node_evaluation.specs.tree_rules.Proved.{IsStopped}
use Rattle.abb_search.specs.Searched.{Searched, AreNodesOf}
use Rattle.abb_search.proofs.EndLemmas.{stopped}
use Rattle.abb_search.proofs.StepLemmas.{stands_tree, nodes_of_tree}
use Rattle.abb_search.proofs.turns.SearchWith.tree.Goals as goal

pub returns-clause-stopped : goal.returns-clause-stopped
returns-clause-stopped g c =
    let s = c.self.inside.growing in
    let w = c.in_ok-placed.placed in
    let t =
    stands_tree g.E.Evaluator.past c.self.inside.site s c.self.inside.looked
    (c.self.invariant.1.stands (ap (λ (v : Searched). v.ended) c.self.view_is ∙ c.requires)) in
    subst (λ (v : Searched). IsStopped v.problem (node_of v.start) (claim_with v.best) w.tree)
    c.self.view_is
    (stopped c.self.inside.site s t 0 w.place w.tree c.in_ok-placed.ensures.tree
    c.in_ok-placed.ensures.sized)

pub returns-clause-nodes : goal.returns-clause-nodes
returns-clause-nodes g c =
    let s = c.self.inside.growing in
    let w = c.in_ok-placed.placed in
    let t =
    stands_tree g.E.Evaluator.past c.self.inside.site s c.self.inside.looked
    (c.self.invariant.1.stands (ap (λ (v : Searched). v.ended) c.self.view_is ∙ c.requires)) in
    subst (λ (v : Searched). AreNodesOf v.cells w.tree) c.self.view_is
    (nodes_of_tree s.pool.payloads t.kept.grown.linked 0 w.place w.tree
    c.in_ok-placed.ensures.tree)
