-- The steps of the cost of flows, the last of which is the cost: for each unit of the set, in
-- rising order, its fixed cost times d, the sum with it, the cost of its size, and the sum with
-- that.
use Rattle.std.specs.Prelude.{ℕ, ℤ, pos, ◌+ℤ◌, ◌*ℤ◌, Bool, List, [], ◌∷◌, ◌++◌}
use Rattle.flow_rules.specs.Net.{Net, trillion, size_cost, units_of}

abbrev pub unit_steps : ℤ → ℤ → ℤ → ℤ → ℤ → List ℤ
unit_steps fixed each size d sum =
    (fixed *ℤ d) ∷ (sum +ℤ fixed *ℤ d) ∷ (each *ℤ size) ∷ (sum +ℤ fixed *ℤ d +ℤ each *ℤ size) ∷ []

abbrev pub cost_steps_from : Net → (ℕ → ℤ) → ℤ → List ℕ → ℤ → List ℤ
cost_steps_from net z d [] sum = []
cost_steps_from net z d (i ∷ is) sum =
    unit_steps (net.fix i *ℤ trillion) (size_cost net i) (z i) d sum
    ++ cost_steps_from net z d is (sum +ℤ (net.fix i *ℤ trillion) *ℤ d +ℤ size_cost net i *ℤ z i)

abbrev pub cost_steps : Net → (ℕ → Bool) → (ℕ → ℤ) → ℤ → List ℤ
cost_steps net s z d = cost_steps_from net z d (units_of net s) (pos 0)
