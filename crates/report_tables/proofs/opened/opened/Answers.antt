use Rattle.std.proofs.Common.{◌∙◌, ap, sym, subst, map}
use Rattle.cert_check.specs.tree_rules.Tree.{IsTree}
use Rattle.cert_check.specs.tree_rules.Accepted.{Tree}
use Rattle.report_tables.specs.Opened.{opened_node}
use Rattle.report_tables.proofs.LeafLists.{tree_opened}
use Rattle.report_tables.proofs.opened.opened.Goals as goal

pub from_nodes-requires : goal.from_nodes-requires
from_nodes-requires c = record {
  tree =
      subst (λ (ts : Tree). IsTree ts)
      (sym (c.in_ok-nodes.ensures ∙ ap (λ (ts : Tree). map opened_node ts) c.nodes.ensures))
      (tree_opened c.args.tree.now c.is_tree.ensures);
}
