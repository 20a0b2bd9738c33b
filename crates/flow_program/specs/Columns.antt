-- The steps of one unit in a bound, over its rates as a table has them.
use Rattle.std.specs.Prelude.{ℕ, ℤ, ◌-ℤ◌, ◌*ℤ◌, List, ◌∷◌, ◌++◌}
use Rattle.std.specs.Int.{int_min}
use Rattle.exact_numbers.specs.integer_laws.Total.{total}
use Rattle.pgraph.specs.flow_rules.BoundSteps.{least_steps, reduced_steps}

-- what is left of the scaled cost after the rows `js` have paid
abbrev pub left_of : (ℕ → ℤ) → (ℕ → ℤ) → List ℕ → ℤ → ℤ
left_of y rate js cost = cost -ℤ total (λ j. y j *ℤ rate j) js

abbrev pub least_of : ℤ → ℤ → ℤ → ℤ
least_of factor low high = int_min (factor *ℤ low) (factor *ℤ high)

abbrev pub column_steps : ℤ → ℤ → ℤ → ℤ → (ℕ → ℤ) → (ℕ → ℤ) → List ℕ → ℤ → List ℤ
column_steps scale cost low high y rate js sum =
    (scale *ℤ cost)
    ∷ (reduced_steps y rate js (scale *ℤ cost)
    ++ least_steps (left_of y rate js (scale *ℤ cost)) low high sum)
