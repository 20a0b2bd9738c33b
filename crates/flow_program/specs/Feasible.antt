-- What is judged of sizes: those of units, and what materials leave over.
use Rattle.std.specs.Prelude.{ℕ, ℤ, ◌*ℤ◌, ◌≤ℤ◌, Bool, List}
use Rattle.std.specs.List.{AllByRecursion}
use Rattle.pgraph.specs.flow_rules.Net.{Net, low_end, high_end}
use Rattle.pgraph.specs.flow_rules.Flows.{balance}

abbrev pub IsInBox : Net → (ℕ → ℤ) → ℤ → ℕ → Type 0
IsInBox net z d i = ((net.least i *ℤ d) ≤ℤ z i) × (z i ≤ℤ (net.most i *ℤ d))

abbrev pub AreInBoxes : Net → (ℕ → ℤ) → ℤ → List ℕ → Type 0
AreInBoxes net z d set = AllByRecursion (IsInBox net z d) set

abbrev pub IsInRangeOf : Net → (ℕ → Bool) → (ℕ → ℤ) → ℤ → ℕ → Type 0
IsInRangeOf net s z d j = ((low_end net j (net.lower j) *ℤ d) ≤ℤ balance net s z j)
    × (balance net s z j ≤ℤ (high_end net j (net.lower j) *ℤ d))

abbrev pub AreInRanges : Net → (ℕ → Bool) → (ℕ → ℤ) → ℤ → List ℕ → Type 0
AreInRanges net s z d materials = AllByRecursion (IsInRangeOf net s z d) materials
