-- How far the flows of a basis are read: which of the numbers that are formed are in range.
use Rattle.std.specs.Prelude.{◌≡◌, ℕ, ◌<◌, true, ℤ, pos, ◌<ℤ◌, List, [], ◌∷◌, ◌++◌, map, get_or}
use Rattle.std.specs.List.{range_with_len}
use Rattle.flow_program.specs.flow_rules.Steps.{AreInRange, IsFirstPast}
use Rattle.flow_program.specs.flow_rules.LinearProgram.{LinearProgram}
use Rattle.flow_program.specs.flow_rules.ReadFlows.{Shift, Scaled, Total, Formed, AreValues, formed}
use Rattle.flow_program.specs.flow_rules.ReadFlows.{sizes}
use Rattle.dual_simplex.specs.Rows.{Rows, table, basis}
use Rattle.dual_simplex.specs.Choice.{IsOfSize}

-- each x of the basis has a positive entry in its own row, as in a tableau
abbrev pub IsOwnPositive : Rows → Type 0
IsOwnPositive r = (i : ℕ) → i < r.units → basis r i ≡ true → pos 0 <ℤ table r i i

-- the values of the basis and the common denominators of a program of its size
pub record Reading (p : LinearProgram) (r : Rows) : Type 0 where
  pub size : IsOfSize p r
  pub own : ℕ → ℤ
  pub right : ℕ → ℤ
  pub den : ℕ → ℤ
  pub values : AreValues p (basis r) (table r) own right den

abbrev pub formed_of : {p : LinearProgram} {r : Rows} → Reading p r → Formed → ℤ
formed_of {p} v f = formed p v.own v.right v.den f.unit f.step

-- the numbers of one unit in the second round
abbrev pub size_steps : ℕ → List Formed
size_steps i = record { unit = i; step = Shift } ∷ record { unit = i; step = Scaled }
    ∷ record { unit = i; step = Total } ∷ []

-- the numbers of the second round
abbrev pub second_round : Rows → List Formed
second_round r = sizes (range_with_len 0 r.units)

-- of the numbers of a list, all before the rest are in range
pub record IsFormedTo (number : Formed → ℤ) (all rest : List Formed) : Type 0 where
  pub done : List Formed
  pub is : all ≡ done ++ rest
  pub in_range : AreInRange (map number done)

-- of the numbers of a list this is the first out of range
pub record IsFirstOut (number : Formed → ℤ) (all : List Formed) (f : Formed) : Type 0 where
  pub at : ℕ
  pub past : IsFirstPast (map number all) at
  pub is : get_or all at f ≡ f
