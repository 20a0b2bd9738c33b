-- What is kept of a node while it is extended, so that each step looks only at what the last one
-- changed.
use Rattle.std.specs.Prelude.{◌≡◌, ℕ, ◌<◌, Bool, true, false, not, ◌&&◌, List, [], ◌∷◌, nat_lt, ◌↔◌}
use Rattle.std.specs.Prelude.{MatchOption}
use Rattle.pgraph.specs.number_sets.Sets.{has}
use Rattle.pgraph.specs.pns_rules.Shape.{Shape}
use Rattle.pgraph.specs.pns_rules.Structure.{is_made, is_used, is_needed, Clashes, HasPath}
use Rattle.pgraph.specs.pns_rules.Nodes.{Node}
use Rattle.pgraph.specs.pns_rules.Ends.{remaining, IsNever, IsFirst}
use Rattle.pgraph.specs.Rivals.{IsRival}
use Rattle.pgraph.specs.View.{node_of}
use Rattle.neutral_extension.specs.Candidates.{Candidates, left, AreMakersOf}
use Rattle.neutral_extension.specs.Tests.{MakesRaw}
use Rattle.neutral_extension.specs.declared.intake.Intake.{Intake}
use Rattle.neutral_extension.specs.declared.scarce.Scarce.{Scarce}
use Rattle.neutral_extension.specs.declared.open_leaf.OpenLeaf.{OpenLeaf}

-- ---- the units taken in

-- what the units of o need, use and make, their rivals, and the least exclusion at which they clash
pub record IsIntake (g : Shape) (o : ℕ → Bool) (i : Intake) : Type 0 where
  pub needed : has i.needed ≡ is_needed g o
  pub used : has i.used ≡ is_used g o
  pub made : has i.made ≡ is_made g o
  pub rivals : (u : ℕ) → (has i.rivals u ≡ true) ↔ IsRival g o u
  pub clash : MatchOption i.clash (IsNever (Clashes g o)) (IsFirst (Clashes g o))

-- ---- the makers that are left

abbrev pub is_empty : List ℕ → Bool
is_empty [] = true
is_empty (x ∷ xs) = false

abbrev pub is_single : List ℕ → Bool
is_single [] = false
is_single (x ∷ xs) = is_empty xs

-- the list has what passes the test, except for some numbers
abbrev pub IsTold : (ℕ → Bool) → (ℕ → Bool) → List ℕ → Type 0
IsTold but test xs = (x : ℕ) → but x ≡ false → has xs x ≡ test x

-- the materials below n of which no maker is left, and those of which one is left, except for some
-- materials
pub record IsCounted (k : Candidates) (n : ℕ) (but : ℕ → Bool) (s : Scarce) : Type 0 where
  pub unmade : IsTold but (λ x. nat_lt x n && is_empty (left k x)) s.unmade
  pub single : IsTold but (λ x. nat_lt x n && is_single (left k x)) s.single

-- u is the one maker of x outside E
pub record IsOnlyMaker (g : Shape) (d : Node) (x u : ℕ) : Type 0 where
  pub known : u < g.units
  pub makes : g.makes u x ≡ true
  pub remains : d.outside u ≡ false
  pub alone : (v : ℕ) → v < g.units → g.makes v x ≡ true → d.outside v ≡ false → v ≡ u

-- ---- the node

-- what is kept is so at the node
pub record Stands (g : Shape) (s : OpenLeaf) : Type 0 where
  pub intake : IsIntake g (has s.node.inside) s.intake
  pub unmade : (x : ℕ) → has s.scarce.unmade x
      ≡ (nat_lt x g.materials && not (is_made g (remaining g (node_of s.node)) x))
  pub single : (x : ℕ) → (has s.scarce.single x ≡ true)
      ↔ ((u : ℕ) × IsOnlyMaker g (node_of s.node) x u)
  pub used : has s.used ≡ is_used g (remaining g (node_of s.node))
  pub raw_makers : (u : ℕ) → (has s.raw_makers u ≡ true) ↔ MakesRaw g u

-- the makers are those of the graph, the units taken out of them are those that the node leaves
-- out, and what is scarce was counted over them
pub record Follows (g : Shape) (k : Candidates) (s : OpenLeaf) : Type 0 where
  pub same : AreMakersOf g k.makers
  pub out : (u : ℕ) → has k.taken u ≡ has s.node.outside u
  pub counted : IsCounted k g.materials (λ x. false) s.scarce

-- each unit of the set has a path to a product through units of the set
abbrev pub AllLead : Shape → (ℕ → Bool) → Type 0
AllLead g s = (u : ℕ) → s u ≡ true → HasPath g s u
