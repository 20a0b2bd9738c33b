use Rattle.std.proofs.Common.{◌-◌, ◌++◌, ◌∷◌, [], ℕ, List, drop, get_or, sym, ap, ◌∙◌, arith, inr}
use Rattle.std.proofs.lemmas.List.{append-nil}
use Rattle.tree_text_rules.specs.tree_rules.Tree as trees
use Rattle.tree_text_rules.specs.tree_rules.Leaf.{Leaf}
use Rattle.cert_check.proofs.EndLemmas.{node_ahead, roots_step, roots_end}
use Rattle.cert_check.proofs.subtrees.roots.Goals as goal

pub over-preserved : goal.over-preserved
over-preserved c =
    let ts = c.args.nodes.now in
    let lt = c.if-at-nodes.true in
    let end = c.requires.are c.over.at (omega arith) lt in
    let rest : List (List ℕ) =
    trees.roots (c.over.left - 1) (drop (get_or c.args.ends.now c.over.at 0) ts) in
    record {
      within = end.within;
      so_far =
          ap (λ (w : List (List ℕ)). w ++ rest) c.in_ok-push.ensures.items
          ∙ (ap (λ (t : trees.TreeNode Leaf). (c.over.found.items ++ t.option ∷ []) ++ rest)
          c.node.view_is
          ∙ (roots_step ts c.args.ends.now c.over.left c.over.at c.index-nodes-at.result
          c.over.found.items c.requires.are c.over-test.true lt
          (node_ahead ts c.over.at c.index-nodes-at.result lt c.index-nodes-at.is)
          ∙ c.over.invariant.so_far));
    }

pub returns-else-at-nodes : goal.returns-else-at-nodes
returns-else-at-nodes c =
    let ts = c.args.nodes.now in
    sym (append-nil c.over.found.items)
    ∙ (ap (λ (w : List (List ℕ)). c.over.found.items ++ w)
    (sym (roots_end ts c.over.left c.over.at (inr c.if-at-nodes.false)))
    ∙ c.over.invariant.so_far)
