-- A position in the decision of the units one by one. It is the decision mapping of Friedler,
-- Tarjan, Huang and Fan 1992, but the makers of a material are decided one after another, the
-- greatest number first.
use Rattle.std.specs.Prelude.{◌≡◌, ℕ, ◌<◌, Bool, true, false, not, ◌||◌, List, length, Option, Some}
use Rattle.std.specs.Prelude.{None}
use Rattle.pgraph.specs.number_sets.Sets.{has, listed, with_number}
use Rattle.pgraph.specs.pns_rules.Shape.{Shape}
use Rattle.pgraph.specs.pns_rules.Structure.{is_needed, IsBetween}
use Rattle.pgraph.specs.pns_rules.Trace.{Pair, is_done, units_of, next_material, IsWalk, HasMakers}
use Rattle.pgraph.specs.pns_rules.Trace.{IsBefore}
use Rattle.pgraph.specs.unit_sets.declared.node.Node.{Node}
use Rattle.structure_list.specs.declared.position.Position.{Position}
use Rattle.structure_list.specs.declared.turn.Turn.{Turn}

-- a solution structure, clash-free or not, that contains the units taken in at the node and avoids
-- those left out
abbrev pub IsWithinNode : Shape → Node → (ℕ → Bool) → Type 0
IsWithinNode g n o = IsBetween g (has n.inside) (has n.outside) o

-- the node with the unit taken in, and with the unit left out
abbrev pub with_unit : ℕ → Node → Node
with_unit u n = record { inside = with_number u n.inside; outside = n.outside }

abbrev pub without_unit : ℕ → Node → Node
without_unit u n = record { inside = n.inside; outside = with_number u n.outside }

-- whether the unit makes the material, if there is one
abbrev pub makes_it : Shape → Option ℕ → ℕ → Bool
makes_it g None u = false
makes_it g (Some x) u = g.makes u x

-- The trace of each structure of the node begins with the pairs, and `at` is the material that
-- comes next. The units that are taken in are those of the pairs, and makers of `at`.
pub record IsPosition (g : Shape) (p : Position) : Type 0 where
  pub pairs : List Pair
  pub walk : IsWalk g pairs
  pub chosen : (s : ℕ → Bool) → IsWithinNode g p.decided.node s → HasMakers g s pairs
  pub done_is : (x : ℕ) → has p.decided.done x ≡ is_done pairs x
  pub wanted_is : (x : ℕ) → has p.wanted x ≡ is_needed g (has p.decided.node.inside) x
  pub next : next_material g pairs ≡ p.at
  pub from_pairs : (u : ℕ) → units_of pairs u ≡ true → has p.decided.node.inside u ≡ true
  pub in_pairs : (u : ℕ) → has p.decided.node.inside u ≡ true
      → (units_of pairs u || makes_it g p.at u) ≡ true
  pub known : (u : ℕ) → has p.decided.node.inside u ≡ true → u < g.units

-- The unit is free. Of two structures of the node that differ in it, the one without it comes
-- first.
pub record IsTurn (g : Shape) (t : Turn) : Type 0 where
  pub position : IsPosition g t.position
  pub known : t.unit < g.units
  pub makes : makes_it g t.position.at t.unit ≡ true
  pub free : (has t.position.decided.node.inside t.unit || has t.position.decided.node.outside
      t.unit) ≡ false
  pub apart : (s o : ℕ → Bool) → IsWithinNode g t.position.decided.node s
      → IsWithinNode g t.position.decided.node o → s t.unit ≡ false → o t.unit ≡ true
      → IsBefore g s o

-- no unit is left to be decided
abbrev pub IsSettled : Shape → Node → Type 0
IsSettled g n = (s : ℕ → Bool) → IsWithinNode g n s → (u : ℕ) → s u ≡ has n.inside u

-- how many units are neither taken in nor left out
unfoldable pub free_count : Shape → Node → ℕ
free_count g n = length (listed g.units (λ u. not (has n.inside u || has n.outside u)))

-- how many materials are not done
unfoldable pub undone_count : Shape → Position → ℕ
undone_count g p = length (listed g.materials (λ x. not (has p.decided.done x)))

-- u is the greatest number of the set below 128
pub record IsGreatest (s : ℕ → Bool) (u : ℕ) : Type 0 where
  pub below : u < 128
  pub there : s u ≡ true
  pub above : (v : ℕ) → u < v → v < 128 → s v ≡ false
