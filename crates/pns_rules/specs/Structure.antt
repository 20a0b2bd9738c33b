-- Graphs of materials and units, the five axioms, the solution structures and their union
-- (Friedler, Tarjan, Huang and Fan 1992: the axioms; 1993: the maximal structure).
use Rattle.std.specs.Prelude.{◌≡◌, ℕ, ◌<◌, Bool, true, false, not, ◌&&◌, ◌||◌, List, [], ◌∷◌, ◌↔◌}
use Rattle.number_sets.specs.Sets.{any_below, IsWithin, Avoids}
use Rattle.pns_rules.specs.Shape.{Shape}

-- whether some unit of o makes x
abbrev pub is_made : Shape → (ℕ → Bool) → ℕ → Bool
is_made g o x = any_below g.units (λ u. o u && g.makes u x)

-- whether some unit of o uses x
abbrev pub is_used : Shape → (ℕ → Bool) → ℕ → Bool
is_used g o x = any_below g.units (λ u. o u && g.uses u x)

-- the materials of o: the inputs and outputs of its units
abbrev pub mats : Shape → (ℕ → Bool) → ℕ → Bool
mats g o x = is_used g o x || is_made g o x

-- the makers of x in o: its units that produce x
abbrev pub makers : Shape → (ℕ → Bool) → ℕ → ℕ → Bool
makers g o x u = o u && g.makes u x

-- A path to a product: the unit u, a material, a unit, a material and so on. Each unit is in o,
-- each material is an output of the unit before it and an input of the unit after it, and the last
-- material is a product.
abbrev pub IsPath : Shape → (ℕ → Bool) → ℕ → List ℕ → Type 0
IsPath g o u [] = ⊥
IsPath g o u (x ∷ []) = (o u ≡ true) × (g.makes u x ≡ true) × (g.product x ≡ true)
IsPath g o u (x ∷ v ∷ rest) = (o u ≡ true) × (g.makes u x ≡ true) × (g.uses v x ≡ true)
    × IsPath g o v rest

-- there is such a path
pub record HasPath (g : Shape) (o : ℕ → Bool) (u : ℕ) : Type 0 where
  pub path : List ℕ
  pub leads : IsPath g o u path

-- The graph (m, o) of materials m and units o has the materials of its units and meets the axioms.
-- S1: each product is in m. S2: a material of m has no maker in o if and only if it is raw. S3:
-- each unit of o is a unit of the problem. S4: each unit of o has a path to a product. S5: each
-- material of m is an input or an output of some unit of o.
pub record Meets (g : Shape) (m o : ℕ → Bool) : Type 0 where
  pub graph : IsWithin (mats g o) m
  pub s1 : IsWithin g.product m
  pub s2 : (x : ℕ) → m x ≡ true → (is_made g o x ≡ false) ↔ (g.raw x ≡ true)
  pub s3 : (u : ℕ) → o u ≡ true → u < g.units
  pub s4 : (u : ℕ) → o u ≡ true → HasPath g o u
  pub s5 : IsWithin m (mats g o)

-- a unit set is a solution structure
abbrev pub IsStructure : Shape → (ℕ → Bool) → Type 0
IsStructure g o = Meets g (mats g o) o

-- a solution structure, clash-free or not, that contains `inside` and avoids `outside`
pub record IsBetween (g : Shape) (inside outside o : ℕ → Bool) : Type 0 where
  pub meets : IsStructure g o
  pub contains : IsWithin inside o
  pub avoids : Avoids o outside

-- exclusion k has two units of o
pub record Clashes (g : Shape) (o : ℕ → Bool) (k : ℕ) : Type 0 where
  pub known : k < g.exclusions
  pub one : ℕ
  pub other : ℕ
  pub apart : one < other
  pub has_one : (o one ≡ true) × (g.excludes k one ≡ true)
  pub has_other : (o other ≡ true) × (g.excludes k other ≡ true)

-- a set of units is clash-free if no exclusion has two of them
abbrev pub IsAllowed : Shape → (ℕ → Bool) → Type 0
IsAllowed g o = (k : ℕ) → Clashes g o k → ⊥

-- the family of a node: the clash-free solution structures that contain `inside` and avoid
-- `outside`
pub record InFamily (g : Shape) (inside outside o : ℕ → Bool) : Type 0 where
  pub between : IsBetween g inside outside o
  pub allowed : IsAllowed g o

-- The unit set s is the union of all solution structures that avoid `without`. A unit is in s
-- exactly if it is in some graph that meets the axioms and avoids `without`. So is a material a
-- material of s exactly if it is in such a graph.
pub record IsUnion (g : Shape) (without s : ℕ → Bool) : Type 0 where
  pub unit_in : (u : ℕ) → (s u ≡ true)
      ↔ ((m o : ℕ → Bool) × Meets g m o × Avoids o without × (o u ≡ true))
  pub material_in : (x : ℕ) → (mats g s x ≡ true)
      ↔ ((m o : ℕ → Bool) × Meets g m o × Avoids o without × (m x ≡ true))

-- what o needs: the products, and the inputs of its units that are not raw
abbrev pub is_needed : Shape → (ℕ → Bool) → ℕ → Bool
is_needed g o x = g.product x || (not (g.raw x) && is_used g o x)

-- two sets together
abbrev pub both : (ℕ → Bool) → (ℕ → Bool) → ℕ → Bool
both s t u = s u || t u
