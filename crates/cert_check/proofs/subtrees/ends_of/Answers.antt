use Rattle.std.proofs.Common.{◌≡◌, ◌≤◌, ◌<◌, ◌+◌, ◌-◌, ℕ, suc, length, drop, ap, ◌∙◌, subst, arith}
use Rattle.std.proofs.lemmas.List.{length-set}
use Rattle.tree_text_rules.specs.tree_rules.Tree as trees
use Rattle.tree_text_rules.specs.tree_rules.Leaf.{Leaf}
use Rattle.cert_check.specs.Subtrees.{AreEnds}
use Rattle.cert_check.proofs.EndLemmas.{ends_more, node_ahead}
use Rattle.cert_check.proofs.subtrees.ends_of.Goals as goal

pub back-preserved : goal.back-preserved
back-preserved c =
    let ts = c.args.nodes.now in
    let k : c.back.i ≡ suc (c.back.i - 1) = omega (arith, c.back-test.true) in
    let k1 : c.back.i - 1 + 1 ≡ suc (c.back.i - 1) = omega arith in
    let low : c.back.i ≤ length c.args.nodes.now = c.back.invariant.within in
    let lt : c.back.i - 1 < length c.args.nodes.now = omega (arith, c.back-test.true) in
    let count : c.children.result ≡ trees.children c.index-nodes-i.result.end =
    c.children.ensures
    ∙ ap (λ (t : trees.TreeNode Leaf). trees.children t.end) c.node.view_is in
    let behind =
    subst (λ (n : ℕ). drop c.past-end.result ts ≡ trees.skip n (drop (c.back.i - 1 + 1) ts))
    count c.past-end.ensures.behind in
    record {
      within = omega arith;
      same = length-set c.back.ends.items (c.back.i - 1) c.past-end.result ∙ c.back.invariant.same;
      are =
          ends_more ts c.back.ends.items (c.back.i - 1) c.past-end.result c.index-nodes-i.result lt
          c.back.invariant.same
          (node_ahead ts (c.back.i - 1) c.index-nodes-i.result lt c.index-nodes-i.is)
          (subst (λ (n : ℕ). AreEnds ts c.back.ends.items n) k c.back.invariant.are)
          (subst
          (λ (n : ℕ). drop c.past-end.result ts
          ≡ trees.skip (trees.children c.index-nodes-i.result.end) (drop n ts)) k1 behind)
          c.past-end.ensures.within (omega (arith, c.past-end.ensures.later));
    }
