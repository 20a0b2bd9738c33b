-- The position at which the search begins.
use Rattle.std.specs.Prelude.{ℕ, ◌≤◌, Bool, false, List, length, Option, Some, None}
use Rattle.pgraph.specs.number_sets.Sets.{has, IsRising}
use Rattle.pgraph.specs.pns_rules.Shape.{Shape}
use Rattle.pgraph.specs.pns_rules.Structure.{IsStructure, IsUnion}
use Rattle.structure_list.specs.Position.{IsPosition, IsWithinNode, free_count}
use Rattle.structure_list.specs.declared.position.Position.{Position}
use Rattle.structure_list.specs.Tight.{IsTight}

-- a position with all structures, at which only units of the maximal structure are to be decided
pub record IsStart (g : Shape) (p : Position) : Type 0 where
  pub position : IsPosition g p
  pub tight : IsTight g p.decided.node
  pub has_all : (s : ℕ → Bool) → IsStructure g s → IsWithinNode g p.decided.node s
  pub small : free_count g p.decided.node ≤ 128
  pub few : (m : List ℕ) → IsRising m → IsUnion g (λ u. false) (has m)
      → free_count g p.decided.node ≤ length m

-- the position at which the search starts; none if there is no structure
abbrev pub StartsAt : Shape → Option Position → Type 0
StartsAt g None = (s : ℕ → Bool) → IsStructure g s → ⊥
StartsAt g (Some p) = IsStart g p
