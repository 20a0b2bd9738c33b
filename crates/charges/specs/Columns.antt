-- The steps of one unit in a charge, over its rates as a table has them: what it owes, its knees
-- and sizes, and the sum.
use Rattle.std.specs.Prelude.{ℕ, ℤ, pos, ◌-ℤ◌, ◌*ℤ◌, cond, List, [], ◌∷◌, ◌++◌, Option, Some, None}
use Rattle.std.specs.Ordering.{int_eq}
use Rattle.structure_list.specs.flow_rules.Net.{Net}
use Rattle.structure_list.specs.flow_rules.BoundSteps.{reduced_steps}
use Rattle.flow_program.specs.Columns.{left_of}
use Rattle.structure_list.specs.flow_rules.ChargeFacts as rules
use Rattle.structure_list.specs.flow_rules.Charge.{Owed, Knee, bent, least_owed}
use Rattle.structure_list.specs.flow_rules.ChargeSteps.{knee_steps, size_steps, sum_steps}
use Rattle.charges.specs.declared.unit.Terms.{Terms}

-- what the use that is asked for is worth, and the rate at which a unit uses the material; 0 if no
-- use is asked for
abbrev pub worth_asked : Option rules.Demand → ℤ
worth_asked None = pos 0
worth_asked (Some q) = q.worth

abbrev pub rate_asked : Net → Option rules.Demand → ℕ → ℤ
rate_asked net None i = pos 0
rate_asked net (Some q) i = rules.use_rate net q.of i

abbrev pub used_steps : ℤ → ℤ → ℤ → List ℤ
used_steps worth rate each =
    cond (int_eq rate (pos 0)) [] ((worth *ℤ rate) ∷ (each -ℤ worth *ℤ rate) ∷ [])

-- what is left of the cost of a size, and its steps
abbrev pub each_in : Terms → ℤ → (ℕ → ℤ) → (ℕ → ℤ) → List ℕ → ℤ
each_in t d y rate js = left_of y rate js (d *ℤ t.costs.size) -ℤ t.used.worth *ℤ t.used.rate

abbrev pub each_steps : Terms → ℤ → (ℕ → ℤ) → (ℕ → ℤ) → List ℕ → List ℤ
each_steps t d y rate js =
    (d *ℤ t.costs.size)
    ∷ (reduced_steps y rate js (d *ℤ t.costs.size)
    ++ used_steps t.used.worth t.used.rate (left_of y rate js (d *ℤ t.costs.size)))

abbrev pub once_steps : Terms → ℤ → List ℤ
once_steps t d = (d *ℤ t.costs.fixed) ∷ (d *ℤ t.costs.fixed -ℤ t.paid) ∷ []

abbrev pub owed_in : Terms → ℤ → (ℕ → ℤ) → (ℕ → ℤ) → List ℕ → Owed
owed_in t d y rate js =
    record { each = each_in t d y rate js; once = d *ℤ t.costs.fixed -ℤ t.paid }

abbrev pub owed_steps : Terms → ℤ → (ℕ → ℤ) → (ℕ → ℤ) → List ℕ → List ℤ
owed_steps t d y rate js = each_steps t d y rate js ++ once_steps t d

abbrev pub bent_steps : ℤ → ℤ → List Knee → Owed → List ℤ
bent_steps low high ks o = knee_steps low high ks o ++ size_steps low high (bent low high ks o)

abbrev pub charge_in : ℤ → ℤ → List Knee → Owed → ℤ
charge_in low high ks o = least_owed low high (bent low high ks o)

abbrev pub column_steps : Terms → List Knee → ℤ → (ℕ → ℤ) → (ℕ → ℤ) → List ℕ → ℤ → List ℤ
column_steps t ks d y rate js sum =
    owed_steps t d y rate js
    ++ (bent_steps t.sizes.low t.sizes.high ks (owed_in t d y rate js)
    ++ sum_steps t.is_in (charge_in t.sizes.low t.sizes.high ks (owed_in t d y rate js)) sum)
