use Rattle.std.proofs.Common.{drop}
use Rattle.tree_text_rules.specs.pns_rules.Shape.{shape_of}
use Rattle.charges.specs.pgraph.View.{node_of}
use Rattle.tree_text_rules.specs.tree_rules.Accepted.{first_node}
use Rattle.cert_check.specs.Known.{KnowsInside}
use Rattle.cert_check.specs.Shown.{cost_over}
use Rattle.tree_text_rules.specs.tree_rules.Head.{known_first}
use Rattle.branch_tree.specs.HeadView.{lines_of}
use Rattle.cert_check.specs.View.{known_of}
use Rattle.cert_check.proofs.HeadLemmas.{Decides}
use Rattle.cert_check.proofs.head.judge_head.Given as goal

abbrev pub invariant-lines : goal.invariant-lines
invariant-lines l = record {
  decides : Decides l.fn.site (cost_over l.fn.claimed) (known_first l.fn.site first_node)
      (lines_of l.fn.lines) (known_of l.known) (drop l.i (lines_of l.fn.lines)) l.i;
  inside : KnowsInside (shape_of l.fn.site) (node_of l.known.node);
}
