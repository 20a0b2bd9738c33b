-- Units of a node by what the steps need of them.
use Rattle.std.specs.Prelude.{◌≡◌, ℕ, Bool, true, false, ◌&&◌, ◌<◌, nat_lt, List}
use Rattle.pgraph.specs.number_sets.Sets.{has}
use Rattle.pgraph.specs.pns_rules.Shape.{Shape}
use Rattle.pgraph.specs.pns_rules.Structure.{HasPath}
use Rattle.pgraph.specs.pns_rules.Nodes.{Node, is_free, sole, IsPossible}
use Rattle.pgraph.specs.pns_rules.Ends.{remaining, IsPathless}

-- a unit of the graph that is neither taken in nor left out
abbrev pub is_open : Shape → Node → ℕ → Bool
is_open g d u = nat_lt u g.units && is_free g d u

-- u makes a raw material
abbrev pub MakesRaw : Shape → ℕ → Type 0
MakesRaw g u = (x : ℕ) × (g.makes u x ≡ true) × (g.raw x ≡ true)

-- w is the set of the units outside E without a path to a product through units outside E
pub record IsLooseSet (g : Shape) (d : Node) (w : List ℕ) : Type 0 where
  pub pathless : (u : ℕ) → has w u ≡ true → IsPathless g d u
  pub others : (u : ℕ) → remaining g d u ≡ true → has w u ≡ false → HasPath g (remaining g d) u

-- x is the least material with a sole step, and u is its unit
abbrev pub IsLeastSole : Shape → Node → ℕ → ℕ → Type 0
IsLeastSole g d x u = IsPossible g d (sole x u)
    × ((y v : ℕ) → y < x → IsPossible g d (sole y v) → ⊥)

abbrev pub HasNoSole : Shape → Node → Type 0
HasNoSole g d = (x u : ℕ) → IsPossible g d (sole x u) → ⊥
