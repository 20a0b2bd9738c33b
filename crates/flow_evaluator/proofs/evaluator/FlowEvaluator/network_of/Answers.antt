use Rattle.std.proofs.Common.{sym, subst, ap, ◌∙◌}
use Rattle.dual_simplex.specs.problem_rules.Problem.{Problem}
use Rattle.dual_simplex.specs.pns_rules.Shape.{shape_of}
use Rattle.dual_simplex.specs.pns_rules.Nodes.{Node}
use Rattle.dual_simplex.specs.pns_rules.Ends.{IsSound, IsDecided}
use Rattle.node_evaluation.specs.tree_rules.LeastFlows.{decided}
use Rattle.flow_evaluator.proofs.evaluator.FlowEvaluator.network_of.Goals as goal

pub look-requires-clause-sound : goal.look-requires-clause-sound
look-requires-clause-sound c =
    let p = c.args.site.now in
    let f = c.requires.family in
    subst (λ (n : Node). IsSound (shape_of p) n)
    (sym (c.node_of-decided.ensures.node
    ∙ ap (λ (q : Problem). decided q c.args.set) c.problem.ensures.same))
    (c.allowed_is_decided.ensures p c.problem.ensures.valid c.args.set f.between.meets
    f.allowed).0

pub look-requires-clause-split : goal.look-requires-clause-split
look-requires-clause-split c = λ is.
    let p = c.args.site.now in
    let f = c.requires.family in
    subst (λ (n : Node). IsDecided (shape_of p) n)
    (sym (c.node_of-decided.ensures.node
    ∙ ap (λ (q : Problem). decided q c.args.set) c.problem.ensures.same))
    (c.allowed_is_decided.ensures p c.problem.ensures.valid c.args.set f.between.meets
    f.allowed).1
