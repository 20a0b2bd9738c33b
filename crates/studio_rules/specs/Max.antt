-- `max FILE`: the maximal structure, the union of all solution structures, clash-free or not
-- (Friedler, Tarjan, Huang and Fan 1993).
use Rattle.std.specs.Prelude.{◌≡◌, ◌⊎◌, ◌++◌, ℕ, Bool, false, List, [], ◌∷◌, codes}
use Rattle.report_rules.specs.problem_rules.Problem.{Problem, material_names, unit_names}
use Rattle.report_rules.specs.pns_rules.Shape.{Shape, shape_of}
use Rattle.report_rules.specs.pns_rules.Structure.{mats, IsStructure, IsUnion}
use Rattle.studio_rules.specs.Lines.{spaced_names, names_in}
use Rattle.studio_rules.specs.declared.status.Status.{Status}
use Rattle.studio_rules.specs.declared.status.Status.TheVariants.{Done}

-- the set is the union of all solution structures, and is one of them
pub record IsMaximal (g : Shape) (s : ℕ → Bool) : Type 0 where
  pub union : IsUnion g (λ _. false) s
  pub structure : IsStructure g s

-- no set of units is a solution structure
abbrev pub HasNoStructure : Shape → Type 0
HasNoStructure g = (s : ℕ → Bool) → IsStructure g s → ⊥

-- the names of its units, and those of its materials, in file order
abbrev pub units_line : Problem → (ℕ → Bool) → List ℕ
units_line p s = codes "units" ++ spaced_names (names_in s 0 (unit_names p.units))

abbrev pub materials_line : Problem → (ℕ → Bool) → List ℕ
materials_line p m = codes "materials" ++ spaced_names (names_in m 0 (material_names p.materials))

-- the lines of the maximal structure, or the one line `none` if there is no solution structure
abbrev pub MaxLines : Problem → List (List ℕ) → Type 0
MaxLines p lines =
    (HasNoStructure (shape_of p) × (lines ≡ codes "none" ∷ []))
    ⊎ ((s : ℕ → Bool) × IsMaximal (shape_of p) s
    × (lines ≡ units_line p s ∷ materials_line p (mats (shape_of p) s) ∷ []))

abbrev pub MaxWork : Problem → Status → List (List ℕ) → Type 0
MaxWork p Done lines = MaxLines p lines
MaxWork p status lines = ⊥
