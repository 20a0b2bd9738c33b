-- The steps of a charge: the rows, the use that is asked for, the weights of the covers, what these
-- pay, and then the units of the program, in rising order. A sum is formed for each row, weight and
-- unit that adds something.
use Rattle.std.specs.Prelude.{ℕ, ℤ, pos, ◌+ℤ◌, ◌-ℤ◌, ◌*ℤ◌, int_lt, Bool, cond, List, [], ◌∷◌, ◌++◌}
use Rattle.std.specs.Prelude.{map, Option, Some, None}
use Rattle.std.specs.Ordering.{int_eq}
use Rattle.std.specs.Int.{int_min}
use Rattle.integer_laws.specs.Total.{total}
use Rattle.pns_rules.specs.Nodes.{Node}
use Rattle.flow_rules.specs.Net.{Net, million, trillion, size_cost}
use Rattle.flow_rules.specs.Relaxed.{units, rows, row_part}
use Rattle.flow_rules.specs.BoundSteps.{rows_steps, rows_at, reduced_steps}
use Rattle.flow_rules.specs.ChargeFacts.{Demand, Facts, use_rate}
use Rattle.flow_rules.specs.Cover.{Cover, added, paid_by, paid, weights}
use Rattle.flow_rules.specs.Charge.{Knee, Owed, demanded, knees, counted, bend, owed, owed_bent}
use Rattle.flow_rules.specs.Charge.{least_owed, unit_charge, unit_part}

-- the use in the measure of the rows, its worth, and the sum with it
abbrev pub demand_steps : Option Demand → ℤ → List ℤ
demand_steps None sum = []
demand_steps (Some q) sum =
    (million *ℤ q.amount) ∷ (q.worth *ℤ (million *ℤ q.amount))
    ∷ (sum +ℤ q.worth *ℤ (million *ℤ q.amount)) ∷ []

-- what a size of the unit uses is worth, and what the size owes less it, if the unit uses it
abbrev pub use_steps : Net → Option Demand → ℕ → ℤ → List ℤ
use_steps net None i each = []
use_steps net (Some q) i each =
    cond (int_eq (use_rate net q.of i) (pos 0)) []
    ((q.worth *ℤ use_rate net q.of i) ∷ (each -ℤ q.worth *ℤ use_rate net q.of i) ∷ [])

-- the sum with each weight that is added
abbrev pub added_steps : Option ℕ → ℤ → ℤ → List ℤ
added_steps None weight sum = (sum +ℤ weight) ∷ []
added_steps (Some u) weight sum = []

abbrev pub weight_steps : List Cover → ℤ → List ℤ
weight_steps [] sum = []
weight_steps (c ∷ cs) sum =
    added_steps c.beside c.weight sum ++ weight_steps cs (sum +ℤ added c.beside c.weight)

-- what each unit of a set is paid with this set's weight, and what the unit beside it is then
abbrev pub beside_steps : (ℕ → ℤ) → ℤ → Option ℕ → List ℤ
beside_steps before weight None = []
beside_steps before weight (Some u) = (before u -ℤ weight) ∷ []

abbrev pub paid_steps : (ℕ → ℤ) → List Cover → List ℤ
paid_steps before [] = []
paid_steps before (c ∷ cs) =
    map (λ i. before i +ℤ c.weight) c.units
    ++ (beside_steps before c.weight c.beside ++ paid_steps (λ i. before i +ℤ paid_by c i) cs)

-- for each knee of which something counts: the product with its size, what is owed less it, and the
-- cost of a size with it
abbrev pub knee_steps : ℤ → ℤ → List Knee → Owed → List ℤ
knee_steps low high [] o = []
knee_steps low high (k ∷ ks) o =
    cond (int_eq (counted low high o.each k) (pos 0)) []
    ((counted low high o.each k *ℤ k.at) ∷ (o.once -ℤ counted low high o.each k *ℤ k.at)
    ∷ (o.each +ℤ counted low high o.each k) ∷ [])
    ++ knee_steps low high ks (bend low high o k)

-- the lesser product of what is left with an end of the sizes, and what is owed with it
abbrev pub size_steps : ℤ → ℤ → Owed → List ℤ
size_steps low high o =
    int_min (o.each *ℤ low) (o.each *ℤ high) ∷ least_owed low high o ∷ []

-- the sum with the part, which is formed if the unit is taken in or the part is below 0
abbrev pub sum_steps : Bool → ℤ → ℤ → List ℤ
sum_steps is_in part sum =
    cond is_in ((sum +ℤ part) ∷ []) (cond (int_lt part (pos 0)) ((sum +ℤ part) ∷ []) [])

abbrev pub unit_steps : Net → Node → Facts → ℤ → (ℕ → ℤ) → List Cover → ℕ → ℤ → List ℤ
unit_steps net n f scale y covers i sum =
    (scale *ℤ size_cost net i)
    ∷ (reduced_steps y (λ j. net.rate j i) (rows_at net n i) (scale *ℤ size_cost net i)
    ++ (use_steps net f.demand i
    (scale *ℤ size_cost net i -ℤ total (λ j. y j *ℤ net.rate j i) (rows net n))
    ++ ((scale *ℤ (net.fix i *ℤ trillion)) ∷ (scale *ℤ (net.fix i *ℤ trillion) -ℤ paid covers i)
    ∷ (knee_steps (f.least i) (f.most i) (knees net n f y i) (owed net n f scale y covers i)
    ++ (size_steps (f.least i) (f.most i) (owed_bent net n f scale y covers i)
    ++ sum_steps (n.inside i) (unit_charge net n f scale y covers i) sum)))))

abbrev pub units_steps : Net → Node → Facts → ℤ → (ℕ → ℤ) → List Cover → List ℕ → ℤ → List ℤ
units_steps net n f scale y covers [] sum = []
units_steps net n f scale y covers (i ∷ is) sum =
    unit_steps net n f scale y covers i sum
    ++ units_steps net n f scale y covers is (sum +ℤ unit_part net n f scale y covers i)

abbrev pub charge_steps : Net → Node → Facts → ℤ → (ℕ → ℤ) → List Cover → List ℤ
charge_steps net n f scale y covers =
    rows_steps net n y (rows net n) (pos 0)
    ++ (demand_steps f.demand (total (row_part net n y) (rows net n))
    ++ (weight_steps covers (total (row_part net n y) (rows net n) +ℤ demanded f.demand)
    ++ (paid_steps (λ i. pos 0) covers
    ++ units_steps net n f scale y covers (units net n)
    (total (row_part net n y) (rows net n) +ℤ demanded f.demand +ℤ weights covers))))
