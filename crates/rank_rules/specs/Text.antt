-- What a text says of a ranking: the counts, whether it is a list of alternatives, the networks,
-- the tree with its marks, and how the search ended.
use Rattle.std.specs.Prelude.{◌≡◌, ℕ, ◌≤◌, Bool, true, List, [], ◌∷◌, length, Some, None}
use Rattle.tree_text_rules.specs.tree_rules.Tree as trees
use Rattle.tree_text_rules.specs.tree_rules.Leaf as leaves
use Rattle.tree_text_rules.specs.tree_rules.Claim.{Network}
use Rattle.tree_text_rules.specs.tree_rules.Accepted.{Tree}
use Rattle.rank_rules.specs.declared.naming.Naming.{Naming}
use Rattle.rank_rules.specs.declared.naming.Naming.TheVariants.{Only, Within}
use Rattle.rank_rules.specs.Ranked.{Ranking}
use Rattle.tree_text_rules.specs.tree_rules.Tail.{Tail}
use Rattle.rank_rules.specs.Marked.{Mark, marked, first_mark, marks_behind}

pub record Text : Type 0 where
  pub count : ℕ
  pub distinct : Bool
  pub networks : List Network
  pub tree : Tree
  pub marks : List Mark
  pub tail : Tail

-- the ranking that it is
abbrev pub ranking_of : Text → Ranking
ranking_of t = record {
  count = t.count;
  distinct = t.distinct;
  networks = t.networks;
  tree = marked t.marks t.tree;
}

-- networks are named by numbers from 1 on
abbrev pub AreNumbered : List Mark → Type 0
AreNumbered [] = Unit {0}
AreNumbered (None ∷ ms) = AreNumbered ms
AreNumbered (Some m ∷ ms) = (1 ≤ m.network) × AreNumbered ms

-- only a list of alternatives names networks that others contain
abbrev pub FitsWay : Bool → Naming → Type 0
FitsWay distinct Only = Unit {0}
FitsWay distinct Within = distinct ≡ true

abbrev pub FitWays : Bool → List Mark → Type 0
FitWays distinct [] = Unit {0}
FitWays distinct (None ∷ ms) = FitWays distinct ms
FitWays distinct (Some m ∷ ms) = FitsWay distinct m.way × FitWays distinct ms

-- a leaf with a bound of its own is open, and names no network
abbrev pub IsBareAt : Mark → trees.End leaves.Leaf → Type 0
IsBareAt m (trees.branch w) = Unit {0}
IsBareAt m (trees.leaf (leaves.dead x)) = Unit {0}
IsBareAt m (trees.leaf (leaves.clash k)) = Unit {0}
IsBareAt m (trees.leaf (leaves.refuted ys)) = Unit {0}
IsBareAt m (trees.leaf (leaves.bounded d ys)) = Unit {0}
IsBareAt m (trees.leaf (leaves.charged h)) = Unit {0}
IsBareAt m (trees.leaf (leaves.untried None)) = Unit {0}
IsBareAt m (trees.leaf (leaves.untried (Some low))) = m ≡ None

abbrev pub AreBare : List Mark → Tree → Type 0
AreBare ms [] = Unit {0}
AreBare ms (t ∷ ts) = IsBareAt (first_mark ms) t.end × AreBare (marks_behind ms t.end) ts

-- at least one network is asked for, and no more than that are there; and a leaf that names one has
-- no bound of its own, and names it in a way that the list has
pub record IsCounted (count : ℕ) (distinct : Bool) (networks : List Network) (tree : Tree)
    (marks : List Mark) : Type 0 where
  pub asked : 1 ≤ count
  pub within : length networks ≤ count
  pub numbered : AreNumbered marks
  pub ways : FitWays distinct marks
  pub bare : AreBare marks tree
