use Rattle.std.proofs.Common.{◌≡◌, ◌++◌, true, drop}
use Rattle.structure_list.specs.pns_rules.Shape.{shape_of}
use Rattle.structure_list.specs.pgraph.View.{node_of}
use Rattle.search_tree.specs.tree_rules.Ways.{options_at}
use Rattle.node_evaluation.specs.Choices.{way_of}
use Rattle.node_evaluation.specs.Children.{AreLooked, AreSolvedBy, cells_of, options_in}
use Rattle.node_evaluation.proofs.children.look_at_children.Given as goal

abbrev pub invariant-options : goal.invariant-options
invariant-options g l = record {
  looked : AreLooked g.E.Evaluator.past l.site (node_of l.node) (way_of l.choice) l.children;
  solved : l.all ≡ true
      → AreSolvedBy l.site (cells_of l.children.nodes.items) l.children.networks.items;
  done : options_in l.children ++ drop l.option-index l.option-items
      ≡ options_at (shape_of l.site) (node_of l.node) (way_of l.choice);
  own : g.E.Evaluator.values l.site l.workspace.evaluator;
  makers : l.workspace.makers.makers ≡ l.fn.workspace.makers.makers;
}
