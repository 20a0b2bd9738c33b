use Rattle.std.proofs.Common.{Some, ap, inl, inr, refl}
use Rattle.node_evaluation.specs.tree_rules.Leaf.{Scaled}
use Rattle.node_evaluation.specs.search_tree.declared.shut.Shut.TheVariants as shuts
use Rattle.abb_search.proofs.closing.low_of.Goals as goal

pub returns-then-not-wanted : goal.returns-then-not-wanted
returns-then-not-wanted c = inl refl

pub returns : goal.returns
returns c = inr (
  ap (λ (m : Scaled). Some (shuts.Low m)) c.in_ok-copy.ensures,
  c.are_in_range.ensures.scale,
  c.are_in_range.ensures.multipliers,
)
