-- The steps by which numbers over d are judged to be flows: for each material of the set, and each
-- unit of the set that has a rate of it, the rate times the unit's size and the sum with it. All
-- are formed before the answer is given. A size or a sum over d is compared with a bound by its
-- floor and its remainder when it is divided by d. So no product with d is formed.
use Rattle.std.specs.Prelude.{ℕ, ℤ, pos, ◌+ℤ◌, ◌*ℤ◌, Bool, not, ◌&&◌, List, [], ◌∷◌, ◌++◌}
use Rattle.std.specs.Ordering.{int_eq}
use Rattle.flow_rules.specs.Net.{Net, units_of, materials_of}

-- the units of the set that have a rate of the material that is not 0
abbrev pub units_at : Net → (ℕ → Bool) → ℕ → List ℕ
units_at net s j = units_of net (λ i. s i && not (int_eq (net.rate j i) (pos 0)))

abbrev pub balance_steps : Net → (ℕ → ℤ) → ℕ → List ℕ → ℤ → List ℤ
balance_steps net z j [] sum = []
balance_steps net z j (i ∷ is) sum =
    (net.rate j i *ℤ z i) ∷ (sum +ℤ net.rate j i *ℤ z i)
    ∷ balance_steps net z j is (sum +ℤ net.rate j i *ℤ z i)

abbrev pub materials_steps : Net → (ℕ → Bool) → (ℕ → ℤ) → List ℕ → List ℤ
materials_steps net s z [] = []
materials_steps net s z (j ∷ js) =
    balance_steps net z j (units_at net s j) (pos 0) ++ materials_steps net s z js

abbrev pub feasible_steps : Net → (ℕ → Bool) → (ℕ → ℤ) → ℤ → List ℤ
feasible_steps net s z d = materials_steps net s z (materials_of net s)
