-- The best networks that a search has found, each with the number of the leaf at which it was
-- found, and what holds of them and of the cells of the search's tree.
use Rattle.std.specs.Prelude.{◌≡◌, ◌⊎◌, ℕ, ◌<◌, ◌≤◌, ℤ, false, List, [], ◌∷◌, length, map}
use Rattle.std.specs.Prelude.{Option, Some}
use Rattle.std.specs.List.{slice_get}
use Rattle.rank_check.specs.problem_rules.Problem.{Problem}
use Rattle.rank_check.specs.tree_rules.Tree.{leaf}
use Rattle.rank_check.specs.tree_rules.Claim.{Network, CostOver}
use Rattle.rank_check.specs.tree_rules.Leaf.{bounded, IsBounded}
use Rattle.rank_check.specs.rank_rules.Networks.{cost_of, last_cost, to_undercut, IsNoCheaper}
use Rattle.abb_search.specs.search_tree.Cells.{Cell, place_of, cell_at}
use Rattle.abb_search.specs.node_evaluation.Looks.{is_charged, IsFoundAt}

-- a network, and the number of the leaf at which it was found
pub record FoundAt : Type 0 where
  pub network : Network
  pub leaf : ℕ

abbrev pub networks_of : List FoundAt → List Network
networks_of fs = map (λ (f : FoundAt). f.network) fs

-- the cost that is to be undercut, if so many networks are asked for
abbrev pub undercut_by : ℕ → List FoundAt → Option CostOver
undercut_by count fs = to_undercut count (networks_of fs)

-- one of them was found at this leaf
abbrev pub IsOfLeaf : ℕ → List FoundAt → Type 0
IsOfLeaf j [] = ⊥
IsOfLeaf j (f ∷ fs) = (f.leaf ≡ j) ⊎ IsOfLeaf j fs

-- no two were found at one leaf
abbrev pub AreApart : List FoundAt → Type 0
AreApart [] = Unit {0}
AreApart (f ∷ fs) = (IsOfLeaf f.leaf fs → ⊥) × AreApart fs

-- none costs less than the one before it
abbrev pub AreRising : List FoundAt → Type 0
AreRising [] = Unit {0}
AreRising (f ∷ []) = Unit {0}
AreRising (f ∷ g ∷ gs) = IsNoCheaper f.network g.network × AreRising (g ∷ gs)

-- the network is that of the leaf alone, and the leaf's multipliers bound what it costs
pub record IsFoundThere (p : Problem) (cells : List Cell) (f : FoundAt) : Type 0 where
  pub there : f.leaf < length cells
  pub d : ℤ
  pub ys : List ℤ
  pub end_is : (cell_at cells f.leaf).end ≡ leaf (bounded d ys)
  pub found : IsFoundAt p (place_of (cell_at cells f.leaf)) f.network
  pub bound : IsBounded p (Some (cost_of f.network)) (place_of (cell_at cells f.leaf)) d ys

-- a bounded leaf is that of one of the networks; or there are as many as are asked for, and its
-- multipliers bound what the last one costs
abbrev pub IsListedOrBeaten : Problem → ℕ → List FoundAt → List Cell → ℕ → Type 0
IsListedOrBeaten p count fs cells j =
    (d : ℤ) (ys : List ℤ) → (cell_at cells j).end ≡ leaf (bounded d ys)
    → IsOfLeaf j fs
    ⊎ ((length fs ≡ count)
    × IsBounded p (last_cost (networks_of fs)) (place_of (cell_at cells j)) d ys)

-- the networks are the best of those that were found at the leaves of these cells, as many as are
-- asked for at most, best first. No leaf charges its node, whose charge would have to reach what
-- the last network costs.
pub record AreBest (p : Problem) (count : ℕ) (cells : List Cell) (fs : List FoundAt) : Type 0 where
  pub there : (k : ℕ) (f : FoundAt) → slice_get fs k ≡ Some f → IsFoundThere p cells f
  pub apart : AreApart fs
  pub rising : AreRising fs
  pub few : length fs ≤ count
  pub leaves : (j : ℕ) → j < length cells → IsListedOrBeaten p count fs cells j
  pub uncharged : (j : ℕ) → j < length cells → is_charged (cell_at cells j).end ≡ false
