-- The clash-free solution structures that contain the units taken in and avoid those left out, and
-- the head of the listing.
use Rattle.std.specs.Prelude.{◌≡◌, ℕ, Bool, List, ◌⊎◌, Option, Some, None}
use Rattle.pgraph.specs.number_sets.Sets.{has}
use Rattle.pgraph.specs.pns_rules.Shape.{Shape}
use Rattle.pgraph.specs.pns_rules.Structure.{InFamily}
use Rattle.pgraph.specs.pns_rules.Trace.{IsBefore}
use Rattle.pgraph.specs.pns_rules.Listing.{IsListed}
use Rattle.pgraph.specs.unit_sets.declared.node.Node.{Node}

-- a clash-free structure of the node's family
abbrev pub IsOf : Shape → Node → (ℕ → Bool) → Type 0
IsOf g n o = InFamily g (has n.inside) (has n.outside) o

-- the two sets are the same, or the first is before the second
abbrev pub IsUpTo : Shape → (ℕ → Bool) → (ℕ → Bool) → Type 0
IsUpTo g s t = ((u : ℕ) → s u ≡ t u) ⊎ IsBefore g s t

-- r is listed, and nothing that is listed comes before it
pub record IsNextListed (g : Shape) (after : Option (List ℕ)) (r : List ℕ) : Type 0 where
  pub listed : IsListed g after r
  pub first : (s : List ℕ) → IsListed g after s → IsUpTo g (has r) (has s)

-- the head of the listing; none if the listing is empty
abbrev pub IsHead : Shape → Option (List ℕ) → Option (List ℕ) → Type 0
IsHead g after None = (s : List ℕ) → IsListed g after s → ⊥
IsHead g after (Some r) = IsNextListed g after r
