use Rattle.std.proofs.Common.{◌∷◌, ◌++◌, [], ℕ, List, ap, ap₂, ◌∙◌, sym, subst}
use Rattle.tree_text_rules.specs.pns_rules.Nodes as nodes
use Rattle.tree_text_rules.specs.tree_rules.Tree.{End, TreeNode}
use Rattle.tree_text_rules.specs.tree_rules.Leaf.{Leaf}
use Rattle.tree_text_rules.specs.OpenLeaves.{open_here}
use Rattle.tree_text_rules.specs.pns_rules.Shape.{shape_of}
use Rattle.charges.specs.pgraph.View.{node_of}
use Rattle.cert_check.specs.declared.walk.Stop.{Stop}
use Rattle.cert_check.specs.Subtrees.{stack_of}
use Rattle.cert_check.specs.OpenLeaves.{leaves_at, AreBefore}
use Rattle.cert_check.specs.Refusals.{NamesFault}
use Rattle.cert_check.specs.Visits.{leaf_passes, leaf_fails}
use Rattle.cert_check.proofs.TurnLemmas.{opened, visited, halted, halted_before, found_on}
use Rattle.cert_check.proofs.walk.walk_to.Goals as goal

pub returns-in-Err-clause-fault : goal.returns-in-Err-clause-fault
returns-in-Err-clause-fault c =
    let g = shape_of c.args.judge.now.site.now in
    let pass = leaf_passes c.args.judge.now in
    let fail = leaf_fails c.args.judge.now in
    let starts : List nodes.Node = node_of c.args.start.now ∷ [] in
    let o =
    opened g pass fail starts c.args.nodes.now c.walk.stack.items c.pop.new.self.items
    c.in-Some.node c.walk.i c.index-nodes-i.result c.walk-test.true c.index-nodes-i.is
    c.in-Some.ensures.items c.walk.invariant.at in
    subst (λ (s : Stop). NamesFault g pass fail starts c.args.nodes.now s.refusal)
    (sym c.at.ensures)
    (rw c.number.ensures
    (halted g pass fail starts c.args.nodes.now (node_of c.in-Some.node) c.index-nodes-i.result
    (stack_of c.pop.new.self.items) c.walk.i c.in-Err.halt o c.in-Err.ensures.halts))

pub returns-in-Err-clause-before : goal.returns-in-Err-clause-before
returns-in-Err-clause-before c =
    let g = shape_of c.args.judge.now.site.now in
    let starts : List nodes.Node = node_of c.args.start.now ∷ [] in
    subst (λ (s : Stop). AreBefore g starts c.args.nodes.now s.refusal (leaves_at s.leaves.items))
    (sym c.at.ensures)
    (rw c.number.ensures
    (halted_before g starts c.args.nodes.now (leaves_at c.walk.leaves.items)
    (stack_of c.walk.stack.items) c.walk.i c.in-Err.halt c.walk.invariant.found))

pub walk-preserved : goal.walk-preserved
walk-preserved c =
    let g = shape_of c.args.judge.now.site.now in
    let pass = leaf_passes c.args.judge.now in
    let fail = leaf_fails c.args.judge.now in
    let starts : List nodes.Node = node_of c.args.start.now ∷ [] in
    let o =
    opened g pass fail starts c.args.nodes.now c.walk.stack.items c.pop.new.self.items
    c.in-Some.node c.walk.i c.index-nodes-i.result c.walk-test.true c.index-nodes-i.is
    c.in-Some.ensures.items c.walk.invariant.at in
    record {
      at =
          visited g pass fail starts c.args.nodes.now (node_of c.in-Some.node)
          c.index-nodes-i.result (stack_of c.pop.new.self.items) (stack_of c.visit.new.stack.items)
          c.walk.i o c.in-Ok-visit.ensures.visited;
      found =
          found_on g starts c.args.nodes.now pass c.walk.stack.items c.pop.new.self.items
          c.in-Some.node c.in-Ok-visit.reached c.index-nodes-i.result
          (stack_of c.visit.new.stack.items) (leaves_at c.walk.leaves.items)
          (leaves_at c.note_end.new.leaves.items) c.walk.i
          c.walk-test.true c.index-nodes-i.is c.in-Some.ensures.items c.in-Ok-visit.ensures.reached
          c.in-Ok-visit.ensures.visited
          (c.in-Ok-note_end.ensures
          ∙ ap₂
          (λ (k : ℕ) (e : End Leaf). leaves_at c.walk.leaves.items
          ++ open_here k (node_of c.in-Ok-visit.reached) e) c.number-in-walk.ensures
          (ap (λ (t : TreeNode Leaf). t.end) c.item.view_is))
          c.walk.invariant.found;
      same = c.walk.invariant.same;
      are = c.walk.invariant.are;
    }
