-- The ways to branch at a node. Each decides a set of units and lists its options: of the units
-- that it decides, those of an option are taken in and the others are left out.
use Rattle.std.specs.Prelude.{◌≡◌, ℕ, ◌<◌, ◌≤◌, Bool, true, not, ◌&&◌, ◌||◌, ◌==◌, List, [], ◌∷◌}
use Rattle.std.specs.Prelude.{map, length}
use Rattle.flow_rules.specs.number_sets.Sets.{has}
use Rattle.flow_rules.specs.pns_rules.Shape.{Shape}
use Rattle.flow_rules.specs.pns_rules.Structure.{is_needed}
use Rattle.flow_rules.specs.pns_rules.Nodes.{Node, is_free, options}

-- at a material, with the number of children that are written; or at a unit, which goes in or goes
-- out
pub data Way : Type 0 where
  at_material : ℕ → ℕ → Way
  either : ℕ → Way

-- how many subtrees follow as its children
abbrev pub width : Way → ℕ
width (at_material x c) = c
width (either u) = 2

-- the material is needed, or the unit is neither taken in nor left out
abbrev pub MayBranch : Shape → Node → Way → Type 0
MayBranch g n (at_material x c) = is_needed g n.inside x ≡ true
MayBranch g n (either u) = (u < g.units) × (is_free g n u ≡ true)

-- the units that are decided: the makers of the material, or the unit
abbrev pub decides : Shape → Way → ℕ → Bool
decides g (at_material x c) v = g.makes v x
decides g (either u) v = u == v

-- the options of the children in their order: those of the material, or the unit and nothing
abbrev pub options_at : Shape → Node → Way → List (List ℕ)
options_at g n (at_material x c) = options g n x
options_at g n (either u) = (u ∷ []) ∷ [] ∷ []

-- the child of the option t
abbrev pub child_at : Shape → Node → Way → List ℕ → Node
child_at g n w t = record {
  inside = λ v. has t v || n.inside v;
  outside = λ v. (decides g w v && not (has t v)) || n.outside v;
}

abbrev pub children_at : Shape → Node → Way → List Node
children_at g n w = map (child_at g n w) (options_at g n w)

-- there is something to decide: the material has two options or more, or the unit makes a needed
-- material
abbrev pub IsDecision : Shape → Node → Way → Type 0
IsDecision g n (at_material x c) = 2 ≤ length (options g n x)
IsDecision g n (either u) = (x : ℕ) × (is_needed g n.inside x ≡ true) × (g.makes u x ≡ true)
