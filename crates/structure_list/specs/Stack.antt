-- The positions that are still to be searched, the first to be searched last: at each the turns
-- that were not taken.
use Rattle.std.specs.Prelude.{◌≡◌, ℕ, suc, ◌+◌, ◌^◌, ◌≤◌, Bool, false, List, [], ◌∷◌, ◌⊎◌, length}
use Rattle.std.specs.Prelude.{◌↔◌, Option, Some, None}
use Rattle.std.specs.List.{sum_by}
use Rattle.pgraph.specs.number_sets.Sets.{has, IsRising}
use Rattle.pgraph.specs.pns_rules.Shape.{Shape}
use Rattle.pgraph.specs.pns_rules.Structure.{IsUnion}
use Rattle.pgraph.specs.pns_rules.Trace.{IsBefore}
use Rattle.structure_list.specs.declared.position.Position.{Position}
use Rattle.structure_list.specs.Position.{IsPosition, free_count}
use Rattle.structure_list.specs.Family.{IsOf}
use Rattle.structure_list.specs.Tight.{IsTight}

-- a clash-free structure of one of the positions
abbrev pub InStack : Shape → List Position → (ℕ → Bool) → Type 0
InStack g [] s = ⊥
InStack g (p ∷ ps) s = IsOf g p.decided.node s ⊎ InStack g ps s

-- A position that has k positions below it. Its structures come after those of the positions above
-- it. The units that it has not decided are so few that there is room for a position for each of
-- them.
pub record IsPlaced (g : Shape) (most k : ℕ) (p : Position) (above : List Position) : Type 0 where
  pub position : IsPosition g p
  pub tight : IsTight g p.decided.node
  pub room : k + free_count g p.decided.node ≤ most
  pub before : (s t : ℕ → Bool) → InStack g above s → IsOf g p.decided.node t → IsBefore g s t

abbrev pub ArePlaced : Shape → ℕ → ℕ → List Position → Type 0
ArePlaced g most k [] = Unit {0}
ArePlaced g most k (p ∷ ps) = IsPlaced g most k p ps × ArePlaced g most (suc k) ps

-- no more positions than units of the maximal structure
pub record IsStack (g : Shape) (ps : List Position) : Type 0 where
  pub most : ℕ
  pub small : most ≤ 128
  pub few : (m : List ℕ) → IsRising m → IsUnion g (λ u. false) (has m) → most ≤ length m
  pub placed : ArePlaced g most 0 ps

-- the first structure of the positions `before` is r, and the others are those of the positions
-- `after`
pub record IsCut (g : Shape) (before : List Position) (r : List ℕ) (after : List Position) : Type
    0 where
  pub there : InStack g before (has r)
  pub first : (s : ℕ → Bool) → InStack g after s → IsBefore g (has r) s
  pub rest : (s : ℕ → Bool) → InStack g before s → ((u : ℕ) → has r u ≡ s u) ⊎ InStack g after s
  pub kept : (s : ℕ → Bool) → InStack g after s → InStack g before s

-- the same structures
abbrev pub HaveSame : Shape → List Position → List Position → Type 0
HaveSame g ps qs = (s : ℕ → Bool) → InStack g ps s ↔ InStack g qs s

-- what a search gives, and the positions that it leaves
abbrev pub Finds : Shape → List Position → Option (List ℕ) → List Position → Type 0
Finds g before None after = HaveSame g before after
Finds g before (Some r) after = IsCut g before r after

-- how many nodes are below these positions at most
unfoldable pub weight : Shape → List Position → ℕ
weight g ps = sum_by (λ p. 2 ^ free_count g p.decided.node) ps
