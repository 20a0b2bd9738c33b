-- Refuted leaves of the code, as the rules speak of them.
use Rattle.std.specs.Prelude.{List, map}
use Rattle.text_lines.specs.problem_rules.Problem.{Problem}
use Rattle.cert_check.specs.pns_rules.Shape.{shape_of}
use Rattle.cert_check.specs.tree_rules.Leaf.{IsRefuted}
use Rattle.cert_check.specs.tree_rules.Accepted.{Tree}
use Rattle.cert_check.specs.Known.{KnowsInside}
use Rattle.cert_check.specs.declared.open_leaf.OpenLeaf.{OpenLeaf}
use Rattle.cert_check.specs.OpenLeaves.{leaf_at}
use Rattle.report_amounts.specs.report_rules.Clash.{RefutedAt}
use Rattle.report_tables.specs.Opened.{leaf_in}

abbrev pub leaf_of : Tree → OpenLeaf → RefutedAt
leaf_of tree l = leaf_in tree (leaf_at l)

abbrev pub leaves_of : Tree → List OpenLeaf → List RefutedAt
leaves_of tree = map (leaf_of tree)

-- the units that are taken in are units of the problem, and the multipliers refute the node
pub record IsGood (p : Problem) (l : RefutedAt) : Type 0 where
  pub known : KnowsInside (shape_of p) l.node
  pub refuted : IsRefuted p l.node l.ys
