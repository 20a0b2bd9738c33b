-- The steps of a bound, the last of which is the bound: the fixed costs, the rows and then the
-- units of the program, in rising order. Of the products of a factor with the two ends of a range
-- only the lesser is formed. As the low end is at most the high end, it is the product with the low
-- end if the factor is at least 0, else that with the high end.
use Rattle.std.specs.Prelude.{ℕ, ℤ, pos, ◌+ℤ◌, ◌-ℤ◌, ◌*ℤ◌, not, ◌&&◌, List, [], ◌∷◌, ◌++◌}
use Rattle.std.specs.Ordering.{int_eq}
use Rattle.std.specs.Int.{int_min}
use Rattle.integer_laws.specs.Total.{total}
use Rattle.pns_rules.specs.number_sets.Sets.{listed}
use Rattle.pns_rules.specs.Structure.{mats}
use Rattle.pns_rules.specs.Nodes.{Node}
use Rattle.flow_rules.specs.Net.{Net}
use Rattle.flow_rules.specs.Relaxed.{stays, units, rows, row_low, row_high, unit_low, unit_cost}
use Rattle.flow_rules.specs.Relaxed.{fixed_cost, reduced_cost, row_part, unit_part}

-- the lesser of the products of the factor with the ends of a range, and the sum with it
abbrev pub least_steps : ℤ → ℤ → ℤ → ℤ → List ℤ
least_steps factor low high sum =
    int_min (factor *ℤ low) (factor *ℤ high) ∷ (sum +ℤ int_min (factor *ℤ low) (factor *ℤ high))
    ∷ []

abbrev pub rows_steps : Net → Node → (ℕ → ℤ) → List ℕ → ℤ → List ℤ
rows_steps net n y [] sum = []
rows_steps net n y (j ∷ js) sum =
    least_steps (y j) (row_low net n j) (row_high net n j) sum
    ++ rows_steps net n y js (sum +ℤ row_part net n y j)

-- the rows in which the unit has a rate that is not 0
abbrev pub rows_at : Net → Node → ℕ → List ℕ
rows_at net n i =
    listed net.graph.materials
    (λ j. mats net.graph (stays n) j && not (int_eq (net.rate j i) (pos 0)))

-- for each of these rows the product of its multiplier and the rate, and what was left less the
-- product
abbrev pub reduced_steps : (ℕ → ℤ) → (ℕ → ℤ) → List ℕ → ℤ → List ℤ
reduced_steps y rate [] left = []
reduced_steps y rate (j ∷ js) left =
    (y j *ℤ rate j) ∷ (left -ℤ y j *ℤ rate j) ∷ reduced_steps y rate js (left -ℤ y j *ℤ rate j)

abbrev pub unit_steps : Net → Node → ℤ → (ℕ → ℤ) → ℕ → ℤ → List ℤ
unit_steps net n scale y i sum =
    (scale *ℤ unit_cost net n i)
    ∷ (reduced_steps y (λ j. net.rate j i) (rows_at net n i) (scale *ℤ unit_cost net n i)
    ++ least_steps (reduced_cost net n scale y i) (unit_low net n i) (net.most i) sum)

abbrev pub units_steps : Net → Node → ℤ → (ℕ → ℤ) → List ℕ → ℤ → List ℤ
units_steps net n scale y [] sum = []
units_steps net n scale y (i ∷ is) sum =
    unit_steps net n scale y i sum
    ++ units_steps net n scale y is (sum +ℤ unit_part net n scale y i)

abbrev pub bound_steps : Net → Node → ℤ → (ℕ → ℤ) → List ℤ
bound_steps net n scale y =
    (scale *ℤ fixed_cost net n)
    ∷ (rows_steps net n y (rows net n) (scale *ℤ fixed_cost net n)
    ++ units_steps net n scale y (units net n)
    (scale *ℤ fixed_cost net n +ℤ total (row_part net n y) (rows net n)))
