-- What the code keeps of knees and of what is owed.
use Rattle.std.specs.Prelude.{◌≡◌, ℕ, ℤ, ◌+ℤ◌, ◌-ℤ◌, ◌*ℤ◌, List, [], ◌∷◌, map}
use Rattle.structure_list.specs.integer_laws.Range.{InRange}
use Rattle.flow_program.specs.Entry.{entry}
use Rattle.structure_list.specs.flow_rules.Charge as rules
use Rattle.structure_list.specs.flow_rules.Charge.{sorted, rounded_up}
use Rattle.charges.specs.declared.bending.Owed.{Owed}
use Rattle.charges.specs.declared.knees.Knees.{Knees}

abbrev pub as_owed : Owed → rules.Owed
as_owed o = record { each = o.each; once = o.once }

abbrev pub knee : ℤ → ℤ → rules.Knee
knee at worth = record { at = at; worth = worth }

-- the knee of a material, and those of a set in the order in which they count
abbrev pub knee_at : Knees → ℕ → rules.Knee
knee_at k j = knee (entry k.at j) (entry k.worth j)

abbrev pub knees_in : Knees → List ℕ → List rules.Knee
knees_in k js = sorted (map (knee_at k) js)

-- the steps for a knee of which so much counts
abbrev pub three_steps : ℤ → ℤ → ℤ → ℤ → List ℤ
three_steps part at each once = (part *ℤ at) ∷ (once -ℤ part *ℤ at) ∷ (each +ℤ part) ∷ []

-- what is read of a material that has a knee
abbrev pub IsKnee : Knees → (ℕ → ℤ) → (ℕ → ℤ) → (ℕ → ℤ) → ℕ → Type 0
IsKnee k useful rate y j =
    (entry k.at j ≡ rounded_up (useful j) (rate j))
    × (InRange (y j *ℤ rate j) → entry k.worth j ≡ y j *ℤ rate j)
