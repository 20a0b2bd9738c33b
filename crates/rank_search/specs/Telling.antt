-- The tree of a search as a ranked one, whose bounded leaves name plants that their structures
-- contain.
use Rattle.std.specs.Prelude.{ℕ, List, Option}
use Rattle.rank_check.specs.tree_rules.Accepted.{Tree}
use Rattle.rank_check.specs.exact_numbers.declared.number.Mixed.{Mixed}
use Rattle.rank_check.specs.rank_rules.Marked.{Mark}
use Rattle.rank_check.specs.rank_rules.declared.naming.Naming.TheVariants.{Within}
use Rattle.abb_search.specs.search_tree.declared.shut.Shut.{Shut}
use Rattle.abb_search.specs.search_tree.Cells.{Cell}
use Rattle.rank_search.specs.Found.{FoundAt}
use Rattle.rank_search.specs.Naming.{Names, IsNamedTree}
use Rattle.rank_search.specs.Names.{AreNamesFor}

pub record IsNamedBy (cells : List Cell) (fs : List FoundAt) (os : List (Option Mixed))
    (proofs : List (Option Shut)) (wanted : ℕ) (tree : Tree) (marks : List Mark)
    (place : ℕ) : Type 0 where
  pub names : Names
  pub are_for : AreNamesFor cells fs os names
  pub named : IsNamedTree cells Within names proofs wanted tree marks place
