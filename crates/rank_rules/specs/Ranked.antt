-- Ranked trees, whole or partial, and their first fault. The type of ranked trees keeps that a list
-- of nodes is one whole tree, and that there are at most as many networks as were asked for. So
-- nothing here checks it.
use Rattle.std.specs.Prelude.{ℕ, zero, suc, Bool, true, false, List, [], ◌∷◌}
use Rattle.tree_text_rules.specs.problem_rules.Problem.{Problem}
use Rattle.tree_text_rules.specs.pns_rules.Shape.{shape_of}
use Rattle.tree_text_rules.specs.tree_rules.declared.why.Why.{Why}
use Rattle.tree_text_rules.specs.tree_rules.Tree.{TreeNode, Pass}
use Rattle.tree_text_rules.specs.tree_rules.Fault.{IsFirstFault}
use Rattle.tree_text_rules.specs.tree_rules.Claim.{Network}
use Rattle.tree_text_rules.specs.tree_rules.Accepted.{first_node}
use Rattle.rank_rules.specs.declared.why.RankWhy.{RankWhy}
use Rattle.rank_rules.specs.Networks.{to_undercut, ArePassing, IsFirstOff}
use Rattle.rank_rules.specs.Leaf.{Leaf, LeafPasses, LeafFails, IsTold}

abbrev pub Tree : Type 0
Tree = List (TreeNode Leaf)

-- so many networks were asked for, these were found, and this tree has to prove that no other is
-- better; a list of alternatives is distinct
pub record Ranking : Type 0 where
  pub count : ℕ
  pub distinct : Bool
  pub networks : List Network
  pub tree : Tree

-- The networks pass, and the tree passes from the node at which nothing is decided. In a partial
-- tree leaves may be open.
pub record Proves (partial : Bool) (p : Problem) (r : Ranking) : Type 0 where
  pub listed : ArePassing r.distinct p [] r.networks
  pub passes : Pass (shape_of p)
      (LeafPasses r.distinct partial p r.networks (to_undercut r.count r.networks))
      (first_node ∷ []) r.tree

abbrev pub IsRanked : Problem → Ranking → Type 0
IsRanked = Proves false

abbrev pub IsPartlyRanked : Problem → Ranking → Type 0
IsPartlyRanked = Proves true

-- ---- the first fault

-- network k, counted from 1, is the first that fails, for the cause
abbrev pub NetworkIsFault : Problem → Ranking → ℕ → RankWhy → Type 0
NetworkIsFault p r k why = IsFirstOff r.distinct p [] r.networks k why

-- at node k the cause is reported as this one
abbrev pub IsToldAt : Tree → ℕ → Why → RankWhy → Type 0
IsToldAt [] k cause why = ⊥
IsToldAt (t ∷ ts) zero cause why = IsTold t.end cause why
IsToldAt (t ∷ ts) (suc k) cause why = IsToldAt ts k cause why

-- node k is the first that fails, for the cause
pub record NodeIsFault (partial : Bool) (p : Problem) (r : Ranking) (k : ℕ) (why : RankWhy) : Type
    0 where
  pub cause : Why
  pub first : IsFirstFault (shape_of p)
      (LeafPasses r.distinct partial p r.networks (to_undercut r.count r.networks))
      (LeafFails r.distinct partial p r.networks (to_undercut r.count r.networks))
      (first_node ∷ []) r.tree k cause
  pub told : IsToldAt r.tree k cause why
