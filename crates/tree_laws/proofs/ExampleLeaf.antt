-- One more kind of leaf besides those of a search: it names units, and passes if just these are
-- taken in and no unit is free. It has rules, so what is proved of trees is true of trees with such
-- leaves.
use Rattle.std.proofs.Common.{◌≡◌, ℕ, ◌<◌, Bool, false, List, [], ◌∷◌, Option, inl}
use Rattle.tree_rules.specs.number_sets.Sets.{has}
use Rattle.tree_rules.specs.problem_rules.Problem.{Problem}
use Rattle.tree_rules.specs.problem_rules.Validity.{IsValid}
use Rattle.tree_rules.specs.pns_rules.Shape.{Shape, shape_of}
use Rattle.tree_rules.specs.pns_rules.Structure.{InFamily}
use Rattle.tree_rules.specs.pns_rules.Nodes.{Node, is_free}
use Rattle.tree_rules.proofs.pns_rules.Cited.{proper_if_valid}
use Rattle.tree_rules.specs.declared.why.Why.{Why}
use Rattle.tree_rules.specs.declared.why.Why.TheVariants as causes
use Rattle.tree_rules.specs.Tree.{TreeNode, Pass}
use Rattle.tree_rules.specs.Fault.{Fails, AreLeafRules, IsFirstFault}
use Rattle.tree_rules.specs.Claim.{CostOver}
use Rattle.tree_rules.specs.Leaf.{Leaf, LeafPasses, LeafFails}
use Rattle.tree_laws.proofs.CoverLemmas.{IsUnder, covers}
use Rattle.tree_laws.proofs.FaultLemmas.{holds, one_of, none, neither, leaf_passes, leaf_one}
use Rattle.tree_laws.proofs.FaultLemmas.{tree_passes, tree_one}

data NamingLeaf : Type 0 where
  plain : Leaf → NamingLeaf
  named : List ℕ → NamingLeaf

abbrev IsNamed : Shape → Node → List ℕ → Type 0
IsNamed g n us = ((u : ℕ) → n.inside u ≡ has us u) × ((u : ℕ) → u < g.units → is_free g n u ≡ false)

module _ (p : Problem) (claimed : Option CostOver) where
  abbrev Passes : Node → NamingLeaf → Type 0
  Passes n (plain l) = LeafPasses false p claimed n l
  Passes n (named us) = IsNamed (shape_of p) n us

  abbrev FailsFor : Node → NamingLeaf → Why → Type 0
  FailsFor n (plain l) why = LeafFails false p claimed n l why
  FailsFor n (named us) why = Fails (IsNamed (shape_of p) n us) causes.Bound ⊥ why

  apart : (n : Node) (l : NamingLeaf) (why : Why) → Passes n l → FailsFor n l why → ⊥
  apart n (plain l) why c f = leaf_passes false p claimed n l why c f
  apart n (named us) why c f = holds _ _ _ why c none f

  one : (n : Node) (l : NamingLeaf) (why other : Why) → FailsFor n l why → FailsFor n l other
      → why ≡ other
  one n (plain l) why other = leaf_one false p claimed n l why other
  one n (named us) why other = one_of _ _ _ _ why other (neither why other)

  rules : AreLeafRules Passes FailsFor
  rules = record { apart = apart; one = one }

  module _ (start : Node) (ts : List (TreeNode NamingLeaf)) where
    covered : IsValid p → Pass (shape_of p) Passes (start ∷ []) ts → (s : ℕ → Bool)
        → InFamily (shape_of p) start.inside start.outside s
        → IsUnder (shape_of p) Passes (start ∷ []) ts s
    covered valid pass s f =
        covers (shape_of p) s (proper_if_valid p valid) Passes (start ∷ []) ts pass (inl f)

    faultless : (k : ℕ) (why : Why) → Pass (shape_of p) Passes (start ∷ []) ts
        → IsFirstFault (shape_of p) Passes FailsFor (start ∷ []) ts k why → ⊥
    faultless = tree_passes (shape_of p) Passes FailsFor rules (start ∷ []) ts

    one_fault : (j k : ℕ) (why other : Why)
        → IsFirstFault (shape_of p) Passes FailsFor (start ∷ []) ts j why
        → IsFirstFault (shape_of p) Passes FailsFor (start ∷ []) ts k other → (j ≡ k)
        × (why ≡ other)
    one_fault = tree_one (shape_of p) Passes FailsFor rules (start ∷ []) ts
