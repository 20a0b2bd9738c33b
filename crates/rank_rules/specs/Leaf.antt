-- The leaves of a ranked tree, which of them pass at a node, and why one fails. A leaf that names a
-- network is judged as a bound that has to reach the cost of that network, in the same order. In
-- addition only that network may be left at the node; or, in a list of alternatives, each structure
-- of the node contains it.
use Rattle.std.specs.Prelude.{◌≡◌, ◌⊎◌, ℕ, ℤ, pos, ◌≤ℤ◌, ◌<◌, Bool, true, false, List, length}
use Rattle.std.specs.Prelude.{Option, Some, None}
use Rattle.tree_text_rules.specs.number_sets.Sets.{has, IsWithin}
use Rattle.tree_text_rules.specs.problem_rules.Problem.{Problem}
use Rattle.tree_text_rules.specs.pns_rules.Shape.{shape_of}
use Rattle.tree_text_rules.specs.pns_rules.Nodes.{Node, is_free}
use Rattle.tree_text_rules.specs.tree_rules.declared.why.Why.{Why}
use Rattle.tree_text_rules.specs.tree_rules.declared.why.Why.TheVariants.{Bound, Sum}
use Rattle.tree_text_rules.specs.tree_rules.Fault.{Fails}
use Rattle.tree_text_rules.specs.tree_rules.Tree.{End, branch, leaf}
use Rattle.tree_text_rules.specs.tree_rules.Claim.{Network, CostOver}
use Rattle.tree_text_rules.specs.tree_rules.Leaf as leaves
use Rattle.tree_text_rules.specs.tree_rules.Leaf.{Scaled, IsOneEach, IsFormed, Reaches, IsBounded}
use Rattle.tree_text_rules.specs.tree_rules.Leaf.{untried}
use Rattle.rank_rules.specs.declared.naming.Naming.{Naming}
use Rattle.rank_rules.specs.declared.naming.Naming.TheVariants.{Only, Within}
use Rattle.rank_rules.specs.declared.why.RankWhy.{RankWhy}
use Rattle.rank_rules.specs.declared.why.RankWhy.TheVariants.{Plain, Named, Over}
use Rattle.rank_rules.specs.Networks.{cost_of, numbered}

-- a leaf of any branch tree; or a leaf that names a network in one of two ways by its number,
-- counted from 1, with a scale and multipliers
pub data Leaf : Type 0 where
  plain : leaves.Leaf → Leaf
  named : Naming → ℕ → ℤ → List ℤ → Leaf

-- the network is there, no unit is free at the node, and the units that are taken in are those of
-- the network
abbrev pub IsOnly : Problem → Option Network → Node → Type 0
IsOnly p None n = ⊥
IsOnly p (Some w) n =
    ((u : ℕ) → u < length p.units → is_free (shape_of p) n u ≡ false)
    × ((u : ℕ) → n.inside u ≡ has w.units u)

-- the network is there, and its units are taken in
abbrev pub IsTakenIn : Option Network → Node → Type 0
IsTakenIn None n = ⊥
IsTakenIn (Some w) n = IsWithin (has w.units) n.inside

-- the node may end with a leaf that names the network this way; only a list of alternatives, which
-- is distinct, has leaves that others contain
abbrev pub MayName : Bool → Naming → Problem → Option Network → Node → Type 0
MayName distinct Only p found n = IsOnly p found n
MayName distinct Within p found n = (distinct ≡ true) × IsTakenIn found n

-- what the network costs, if it is there
abbrev pub named_cost : Option Network → Option CostOver
named_cost None = None
named_cost (Some w) = Some (cost_of w)

pub record IsNamed (distinct : Bool) (way : Naming) (p : Problem) (found : Option Network)
    (n : Node) (d : ℤ) (ys : List ℤ) : Type 0 where
  pub may : MayName distinct way p found n
  pub bounded : IsBounded p (named_cost found) n d ys

abbrev pub LeafPasses : Bool → Bool → Problem → List Network → Option CostOver → Node → Leaf
    → Type 0
LeafPasses distinct partial p ws undercut n (plain l) = leaves.LeafPasses partial p undercut n l
LeafPasses distinct partial p ws undercut n (named way k d ys) =
    IsNamed distinct way p (numbered k ws) n d ys

-- ---- which fail, and why

abbrev pub LeafFails : Bool → Bool → Problem → List Network → Option CostOver → Node → Leaf → Why
    → Type 0
LeafFails distinct partial p ws undercut n (plain l) why =
    leaves.LeafFails partial p undercut n l why
LeafFails distinct partial p ws undercut n (named way k d ys) why =
    Fails (MayName distinct way p (numbered k ws) n × (pos 1 ≤ℤ d) × IsOneEach p n ys) Bound
    (Fails (IsFormed p n d ys) Sum
    (Fails (Reaches p (named_cost (numbered k ws)) n d ys) Bound ⊥ why) why) why

-- what is reported for `Bound` at a leaf that names a network
abbrev pub way_why : Naming → RankWhy
way_why Only = Named
way_why Within = Over

-- the cause is reported as it is, but for a leaf that names a network `Bound` is reported as
-- `Named` or `Over`
abbrev pub IsTold : End Leaf → Why → RankWhy → Type 0
IsTold (branch w) cause why = why ≡ Plain cause
IsTold (leaf (plain l)) cause why = why ≡ Plain cause
IsTold (leaf (named way k d ys)) cause why =
    ((cause ≡ Bound) × (why ≡ way_why way)) ⊎ ((cause ≡ Bound → ⊥) × (why ≡ Plain cause))

-- an open leaf of a ranked tree, with a bound or without
abbrev pub IsOpenLeaf : Leaf → Type 0
IsOpenLeaf l = (low : Option Scaled) × (l ≡ plain (untried low))
