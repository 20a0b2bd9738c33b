use Rattle.std.proofs.Common.{◌≡◌, true, map, ap, ◌∙◌, rules}
use Rattle.structure_list.specs.pgraph.View.{step_of}
use Rattle.node_evaluation.proofs.ChildLemmas.{child_waits}
use Rattle.node_evaluation.proofs.children.look_or_wait.Goals as goal

pub returns-clause-child : goal.returns-clause-child
returns-clause-child g c =
    let stopped : c.args.stopped ≡ true = search rules in
    child_waits g.E.Evaluator.past c.args.site.now c.args.start c.args.option c.from_vec.result
    c.nothing.result c.args.stopped c.open_cell.result stopped c.requires.option
    (c.from_vec.ensures ∙ ap (map step_of) c.new.ensures.items) c.requires.sound c.open_cell.ensures
