-- Open leaves that are shut in a tree, or stay open with a bound.
use Rattle.std.specs.Prelude.{List, [], ◌∷◌, Option, Some, None}
use Rattle.tree_laws.specs.tree_rules.Tree.{End, branch, leaf}
use Rattle.tree_laws.specs.tree_rules.Leaf.{Leaf, dead, clash, refuted, bounded, charged, untried}
use Rattle.search_tree.specs.declared.shut.Shut.{Shut}
use Rattle.search_tree.specs.declared.shut.Shut.TheVariants as shuts
use Rattle.search_tree.specs.Cells.{Cell}
use Rattle.search_tree.specs.Growth.{as_shut}

-- the leaf that ends with this
abbrev pub shut_as : Shut → Leaf
shut_as (shuts.Bounded s) = bounded s.d s.ys
shut_as (shuts.Refuted ys) = refuted ys
shut_as (shuts.Low s) = untried (Some s)

-- an open leaf ends with the item, if there is one; other leaves stay
abbrev pub shut_leaf : Option Shut → Leaf → Leaf
shut_leaf None l = l
shut_leaf (Some s) (dead x) = dead x
shut_leaf (Some s) (clash k) = clash k
shut_leaf (Some s) (refuted ys) = refuted ys
shut_leaf (Some s) (bounded d ys) = bounded d ys
shut_leaf (Some s) (charged h) = charged h
shut_leaf (Some s) (untried low) = shut_as s

abbrev pub shut_end : Option Shut → End Leaf → End Leaf
shut_end s (branch w) = branch w
shut_end s (leaf l) = leaf (shut_leaf s l)

-- the cells, with each open leaf ended in this way by the item at its number
abbrev pub shut_cells : List (Option Shut) → List Cell → List Cell
shut_cells [] cs = cs
shut_cells (s ∷ ss) [] = []
shut_cells (s ∷ ss) (c ∷ cs) = as_shut c (shut_end s c.end) ∷ shut_cells ss cs
