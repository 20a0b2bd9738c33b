use Rattle.std.proofs.Common.{◌∙◌, ◌∷◌, [], ◌<◌, ap₂, length, sym, subst}
use Rattle.tree_text_laws.specs.pns_rules.Shape.{shape_of}
use Rattle.tree_text_laws.specs.tree_rules.Tree.{IsTree}
use Rattle.tree_text_laws.specs.tree_rules.Accepted.{Tree, first_node}
use Rattle.tree_text_laws.specs.tree_text_rules.Graft.{graft_at}
use Rattle.tree_text_laws.specs.tree_text_rules.Part.{start_of}
use Rattle.tree_parts.proofs.GraftLists.{stands_below}
use Rattle.tree_parts.proofs.merging.put_back.Goals as goal

pub graft_at-requires-clause-within : goal.graft_at-requires-clause-within
graft_at-requires-clause-within c =
    subst (λ (ts : Tree). c.args.at < length ts) (sym c.nodes.ensures)
    (stands_below (shape_of c.requires.0) (first_node ∷ []) c.args.tree.now c.args.at
    (start_of c.args.part.now) c.requires.1)

pub from_nodes-requires : goal.from_nodes-requires
from_nodes-requires c =
    let part = c.args.part.now.tree in
    let same = c.in_ok-nodes.ensures
    ∙ ap₂ (λ (ts us : Tree). graft_at c.args.at ts us) c.nodes.ensures
    (c.nodes-2.ensures ∙ c.tree-2.ensures) in
    record {
      tree = subst IsTree (sym same)
          (c.grafts_are_partial.ensures.tree (shape_of c.requires.0) (first_node ∷ []) c.args.at
          (start_of c.args.part.now) c.args.tree.now part c.requires.1 c.is_tree.ensures
          (subst IsTree c.tree.ensures c.is_tree-2.ensures));
    }
