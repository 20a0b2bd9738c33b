-- Covers: sets of units of which each structure of a node has one, so that at least one unit pays.
use Rattle.std.specs.Prelude.{◌≡◌, ℕ, ◌<◌, ◌==◌, ℤ, pos, ◌-ℤ◌, Bool, true, false, cond, ◌&&◌, List}
use Rattle.std.specs.Prelude.{[], Option, Some, None, IfSome}
use Rattle.integer_laws.specs.Total.{total}
use Rattle.pns_rules.specs.number_sets.Sets.{has, IsSet, any_below}
use Rattle.pns_rules.specs.Shape.{Shape}
use Rattle.pns_rules.specs.Structure.{IsBetween}
use Rattle.pns_rules.specs.Nodes.{Node}

-- a set of units with its weight; if a unit is `beside` it, the set covers only the structures that
-- have this unit
pub record Cover : Type 0 where
  pub weight : ℤ
  pub beside : Option ℕ
  pub units : List ℕ

-- the unit is neither taken in nor left out
pub record IsFree (g : Shape) (n : Node) (u : ℕ) : Type 0 where
  pub known : u < g.units
  pub not_inside : n.inside u ≡ false
  pub not_outside : n.outside u ≡ false

-- the units are a set of free units, and so is the unit beside it, which is not among them
pub record IsCover (g : Shape) (n : Node) (c : Cover) : Type 0 where
  pub set : IsSet 128 c.units
  pub some : c.units ≡ [] → ⊥
  pub free : (u : ℕ) → has c.units u ≡ true → IsFree g n u
  pub beside_free : IfSome c.beside (IsFree g n)
  pub apart : IfSome c.beside (λ u. has c.units u ≡ false)

-- each solution structure of the node, clash-free or not, that has the unit beside the set has a
-- unit of the set
abbrev pub Covers : Shape → Node → Cover → Type 0
Covers g n c =
    (s : ℕ → Bool) → IsBetween g n.inside n.outside s → IfSome c.beside (λ u. s u ≡ true)
    → any_below g.units (λ u. s u && has c.units u) ≡ true

-- ---- what the sets pay

abbrev pub is_beside : Option ℕ → ℕ → Bool
is_beside None i = false
is_beside (Some u) i = u == i

-- a set pays its weight to each of its units, and takes it from the unit beside it
abbrev pub paid_by : Cover → ℕ → ℤ
paid_by c i = cond (has c.units i) c.weight (pos 0) -ℤ cond (is_beside c.beside i) c.weight (pos 0)

abbrev pub paid : List Cover → ℕ → ℤ
paid cs i = total (λ c. paid_by c i) cs

-- what a set adds to the charge: its weight if it covers each structure, and nothing if it has a
-- unit beside it, which pays for it
abbrev pub added : Option ℕ → ℤ → ℤ
added None weight = weight
added (Some u) weight = pos 0

abbrev pub weights : List Cover → ℤ
weights cs = total (λ c. added c.beside c.weight) cs
