-- The arcs of one direction between materials and units, found from either end.
use Rattle.std.specs.Prelude.{◌≡◌, ℕ, ◌≤◌, Bool, ◌&&◌, List, [], length, slice_index_or}
use Rattle.flow_rules.specs.number_sets.Sets.{has, any_below}

-- the materials at each unit, and the units at each material
pub record Arcs : Type 0 where
  pub materials : List (List ℕ)
  pub units : List (List ℕ)

-- none if there is no such unit, or no such material
abbrev pub materials_at : Arcs → ℕ → List ℕ
materials_at a u = slice_index_or a.materials u []

abbrev pub units_at : Arcs → ℕ → List ℕ
units_at a x = slice_index_or a.units x []

-- whether an arc joins the unit and the material
abbrev pub joins : Arcs → ℕ → ℕ → Bool
joins a u x = has (units_at a x) u

-- whether an arc joins some unit of the set and the material
abbrev pub joins_some : Arcs → (ℕ → Bool) → ℕ → Bool
joins_some a o x = any_below (length a.materials) (λ u. o u && joins a u x)

-- both ends agree, and there are no more units and materials than a set can have
pub record IsArcs (a : Arcs) : Type 0 where
  pub both_ends : (u x : ℕ) → has (materials_at a u) x ≡ joins a u x
  pub few_units : length a.materials ≤ 128
  pub few_materials : length a.units ≤ 256
