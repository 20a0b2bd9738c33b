use Rattle.std.proofs.Common.{◌≡◌, ◌∙◌, sym, subst}
use Rattle.report_rules.specs.tree_rules.Tree.{IsTree}
use Rattle.report_rules.specs.tree_rules.Accepted.{Tree}
use Rattle.report_rules.specs.rank_rules.Marked.{marked}
use Rattle.report_rules.specs.RankLow.{plain_tree}
use Rattle.verdicts.proofs.PlainLemmas.{is_tree}
use Rattle.verdicts.proofs.plain.plain_tree.Goals as goal

pub from_nodes-requires : goal.from_nodes-requires
from_nodes-requires c =
    let t = c.args.text.now in
    let same : c.in_ok-nodes.nodes.items ≡ plain_tree (marked t.marks t.tree) =
    c.in_ok-nodes.ensures
    ∙ (λ i. plain_tree (marked (c.marks.ensures i) ((c.nodes.ensures ∙ c.tree-tree.ensures) i))) in
    record {
      tree =
          subst (λ (ts : Tree). IsTree ts) (sym same)
          (is_tree t.marks t.tree
          (subst (λ (ts : Tree). IsTree ts) c.tree-tree.ensures c.is_tree.ensures));
    }

pub returns : goal.returns
returns c =
    c.from_nodes.ensures ∙ c.in_ok-nodes.ensures
    ∙ (λ i. plain_tree (marked (c.marks.ensures i) ((c.nodes.ensures ∙ c.tree-tree.ensures) i)))
