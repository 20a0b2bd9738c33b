use Rattle.std.proofs.Common.{sym, ap, ◌∙◌, subst}
use Rattle.node_evaluation.specs.tree_rules.Tree.{IsTree}
use Rattle.node_evaluation.specs.tree_rules.Accepted.{Tree}
use Rattle.node_evaluation.specs.search_tree.Cells.{Cell}
use Rattle.node_evaluation.specs.search_tree.Shut.{shut_cells}
use Rattle.node_evaluation.proofs.search_tree.Cited.{shut_at, shut_linked}
use Rattle.abb_search.proofs.found.shut_tree.Goals as goal

pub from_nodes-requires : goal.from_nodes-requires
from_nodes-requires c =
    let of = c.in_ok-preorder.ensures in
    let ms = c.args.proofs.now in
    let cells = c.args.growing.now.pool.payloads in
    record {
      tree = subst (λ (t : Tree). IsTree t) (sym of.nodes_are)
          (c.preorder_is_tree.ensures.tree (shut_cells ms cells)
          c.in_ok-preorder.preorder.order.items (shut_linked ms cells c.requires.linked)
          (ap (λ (d : Cell). d.option) (shut_at ms cells 0 c.requires.linked.some)
          ∙ c.requires.root) of.is_preorder);
    }

pub returns-clause-tree : goal.returns-clause-tree
returns-clause-tree c =
    let of = c.in_ok-preorder.ensures in
    record {
      order = c.in_ok-preorder.preorder.order.items;
      is_preorder = of.is_preorder;
      nodes_are = c.from_nodes.ensures ∙ of.nodes_are;
      stands = of.stands;
    }
