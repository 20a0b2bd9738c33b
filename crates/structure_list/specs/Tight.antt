-- Nodes at which a unit can be taken in without a test, and at which leaving one out is a local
-- repair. There the units that are not left out are the greatest set in which each material that is
-- used and not raw has a maker.
use Rattle.std.specs.Prelude.{◌≡◌, ℕ, ◌<◌, Bool, true, false, not, ◌&&◌, nat_lt, ◌↔◌}
use Rattle.pgraph.specs.number_sets.Sets.{has, IsWithin}
use Rattle.pgraph.specs.pns_rules.Shape.{Shape}
use Rattle.pgraph.specs.pns_rules.Structure.{is_needed, HasPath}
use Rattle.pgraph.specs.unit_sets.declared.node.Node.{Node}
use Rattle.structure_list.specs.MaxRest.{IsKept}
use Rattle.structure_list.specs.declared.position.Position.{Position}
use Rattle.structure_list.specs.declared.turn.Turn.{Turn}
use Rattle.structure_list.specs.Position.{IsPosition, IsWithinNode, free_count}

-- the units that are not left out
abbrev pub kept_units : Shape → Node → ℕ → Bool
kept_units g n u = nat_lt u g.units && not (has n.outside u)

-- What is kept makes no raw material, and makes all else that it uses or that is needed. It has the
-- units that are taken in, and each of these has a path to a product through such units.
pub record IsTight (g : Shape) (n : Node) : Type 0 where
  pub kept : IsKept g (is_needed g (has n.inside)) (kept_units g n)
  pub inside : IsWithin (has n.inside) (kept_units g n)
  pub leads : (u : ℕ) → has n.inside u ≡ true → HasPath g (has n.inside) u

-- a position after the turn, with the structures in which its unit is, or with those in which it is
-- not
pub record IsSide (g : Shape) (t : Turn) (taken : Bool) (p : Position) : Type 0 where
  pub position : IsPosition g p
  pub tight : IsTight g p.decided.node
  pub same : (s : ℕ → Bool) → IsWithinNode g p.decided.node s
      ↔ (IsWithinNode g t.position.decided.node s × (s t.unit ≡ taken))
  pub fewer : free_count g p.decided.node < free_count g t.position.decided.node

-- each structure of the turn's node has its unit
abbrev pub IsForced : Shape → Turn → Type 0
IsForced g t = (s : ℕ → Bool) → IsWithinNode g t.position.decided.node s → s t.unit ≡ false → ⊥
