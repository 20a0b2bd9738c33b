use Rattle.std.proofs.Common.{[], ◌∷◌, List, ap, ◌∙◌}
use Rattle.tree_text_rules.specs.pns_rules.Nodes as rules
use Rattle.tree_text_rules.specs.tree_rules.Ways.{either, child_at}
use Rattle.charges.specs.unit_sets.declared.node.Node.{Node}
use Rattle.charges.specs.pgraph.Tables.{shape}
use Rattle.charges.specs.pgraph.View.{node_of}
use Rattle.cert_check.specs.Subtrees.{stack_of}
use Rattle.cert_check.proofs.TurnLemmas.{stack_top}
use Rattle.cert_check.proofs.visit.visit_either.Goals as goal

pub returns-clause-stack : goal.returns-clause-stack
returns-clause-stack c =
    let g = shape c.args.graph.now in
    let n = node_of c.args.node.now in
    let inside : rules.Node = child_at g n (either c.args.unit) (c.args.unit ∷ []) in
    ap (λ (ns : List Node). stack_of ns) c.in-Ok-push-2.ensures.items
    ∙ (stack_top c.push.new.self.items c.with_unit.result
    ∙ (ap (λ (m : rules.Node). m ∷ stack_of c.push.new.self.items) (c.with_unit.ensures g)
    ∙ (ap (λ (ns : List Node). inside ∷ stack_of ns) c.in-Ok-push.ensures.items
    ∙ (ap (λ (ms : List rules.Node). inside ∷ ms)
    (stack_top c.args.stack.now.items c.without_unit.result)
    ∙ ap (λ (m : rules.Node). inside ∷ m ∷ stack_of c.args.stack.now.items)
    (c.without_unit.ensures g)))))
