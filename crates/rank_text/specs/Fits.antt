-- What the text of a ranking can have: networks, a tree and a tail that a tree text can have, and
-- for each open leaf of the tree one mark, with numbers in range. An open leaf with a bound names
-- no network.
use Rattle.std.specs.Prelude.{◌≡◌, ◌≤◌, ◌+◌, ℕ, Bool, [], ◌∷◌, length, Some, None}
use Rattle.tree_text_laws.specs.integer_laws.Range.{InRange, AllInRange}
use Rattle.tree_text_laws.specs.problem_rules.Each.{Each}
use Rattle.tree_text_laws.specs.problem_rules.Problem.{Problem}
use Rattle.tree_text_laws.specs.tree_rules.Tree as trees
use Rattle.tree_text_laws.specs.tree_rules.Leaf as leaves
use Rattle.tree_text_laws.specs.tree_rules.Accepted.{Tree}
use Rattle.tree_text_laws.specs.LineFits.{IsSomeCount}
use Rattle.tree_text_laws.specs.Fits.{FitsNetwork, FitsTree, FitsTail}
use Rattle.rank_check.specs.rank_rules.Marked.{Mark}
use Rattle.rank_check.specs.rank_rules.Text.{Text, FitsWay, AreBare}

-- how many open leaves there are
abbrev pub opens_at : trees.End leaves.Leaf → ℕ
opens_at (trees.branch w) = 0
opens_at (trees.leaf (leaves.dead x)) = 0
opens_at (trees.leaf (leaves.clash k)) = 0
opens_at (trees.leaf (leaves.refuted ys)) = 0
opens_at (trees.leaf (leaves.bounded d ys)) = 0
opens_at (trees.leaf (leaves.charged h)) = 0
opens_at (trees.leaf (leaves.untried low)) = 1

abbrev pub opens : Tree → ℕ
opens [] = 0
opens (t ∷ ts) = opens_at t.end + opens ts

abbrev pub FitsMark : Bool → Mark → Type 0
FitsMark distinct None = Unit {0}
FitsMark distinct (Some m) =
    FitsWay distinct m.way × IsSomeCount m.network × InRange m.d × AllInRange m.ys

pub record Fits (p : Problem) (t : Text) : Type 0 where
  pub count : IsSomeCount t.count
  pub within : length t.networks ≤ t.count
  pub networks : Each (FitsNetwork p) t.networks
  pub tree : FitsTree p t.tree
  pub marks : Each (FitsMark t.distinct) t.marks
  pub marked : length t.marks ≡ opens t.tree
  pub bare : AreBare t.marks t.tree
  pub tail : FitsTail p t.tail
