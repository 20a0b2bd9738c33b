-- The places at which a unit set breaks an axiom (Friedler, Tarjan, Huang and Fan 1992). The graph
-- is that of the set and its materials.
use Rattle.std.specs.Prelude.{◌≡◌, ℕ, Bool, true, false, ◌↔◌}
use Rattle.pns_rules.specs.Shape.{Shape}
use Rattle.pns_rules.specs.Structure.{is_made, mats, HasPath}

-- S1: a product that is no material of the set
abbrev pub BreaksS1 : Shape → (ℕ → Bool) → ℕ → Type 0
BreaksS1 g o x = (g.product x ≡ true) × (mats g o x ≡ false)

-- S2: a material of the set that is both raw and made in the set, or neither
abbrev pub BreaksS2 : Shape → (ℕ → Bool) → ℕ → Type 0
BreaksS2 g o x = (mats g o x ≡ true) × (((is_made g o x ≡ false) ↔ (g.raw x ≡ true)) → ⊥)

-- S4: a unit of the set without a path to a product
abbrev pub BreaksS4 : Shape → (ℕ → Bool) → ℕ → Type 0
BreaksS4 g o u = (o u ≡ true) × (HasPath g o u → ⊥)
