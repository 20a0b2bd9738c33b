-- The open leaves that a walk gives, as the rules speak of them.
use Rattle.std.specs.Prelude.{◌≡◌, ℕ, ◌<◌, ◌≤◌, List, [], ◌∷◌, ◌++◌, map}
use Rattle.tree_text_rules.specs.pns_rules.Shape.{Shape}
use Rattle.tree_text_rules.specs.pns_rules.Nodes.{Node}
use Rattle.tree_text_rules.specs.tree_rules.Accepted.{Tree}
use Rattle.tree_text_rules.specs.OpenLeaves.{OpenAt, open_leaves}
use Rattle.cert_check.specs.declared.open_leaf.OpenLeaf.{OpenLeaf}
use Rattle.tree_text_rules.specs.tree_rules.declared.refusal.Refusal.{Refusal}
use Rattle.tree_text_rules.specs.tree_rules.declared.refusal.Refusal.TheVariants.{Memory, Claim}
use Rattle.tree_text_rules.specs.tree_rules.declared.refusal.Refusal.TheVariants as refusals
use Rattle.charges.specs.pgraph.View.{node_of}

abbrev pub leaf_at : OpenLeaf → OpenAt
leaf_at l = record { number = l.number; node = node_of l.node }

abbrev pub leaves_at : List OpenLeaf → List OpenAt
leaves_at = map leaf_at

-- the numbers of the leaves are all below k, or none is
abbrev pub AllBefore : ℕ → List OpenAt → Type 0
AllBefore k [] = Unit {0}
AllBefore k (l ∷ ls) = (l.number < k) × AllBefore k ls

abbrev pub NoneBefore : ℕ → List OpenAt → Type 0
NoneBefore k [] = Unit {0}
NoneBefore k (l ∷ ls) = (k ≤ l.number) × NoneBefore k ls

-- these are all open leaves of a tree before node k
pub record AreThoseBefore (g : Shape) (starts : List Node) (tree : Tree) (k : ℕ)
    (found : List OpenAt) : Type 0 where
  pub others : List OpenAt
  pub all : open_leaves g starts tree 0 ≡ found ++ others
  pub before : AllBefore k found
  pub behind : NoneBefore k others

-- these are all open leaves of the tree before the node that is refused
abbrev pub AreBefore : Shape → List Node → Tree → Refusal → List OpenAt → Type 0
AreBefore g starts tree Memory found = Unit {0}
AreBefore g starts tree (Claim why) found = Unit {0}
AreBefore g starts tree (refusals.Node k why) found = AreThoseBefore g starts tree k found
