-- The whole numbers that a sum forms on its way, in order, and the first of them that is out of
-- range. Each such number, a product, a sum or a difference, is a step. Steps are numbered from 0.
use Rattle.std.specs.Prelude.{ℕ, zero, suc, ℤ, List, [], ◌∷◌}
use Rattle.integer_laws.specs.Range.{InRange}

-- all steps are in range
abbrev pub AreInRange : List ℤ → Type 0
AreInRange [] = Unit {0}
AreInRange (z ∷ zs) = InRange z × AreInRange zs

-- step k is out of range, and each before it is in range
abbrev pub IsFirstPast : List ℤ → ℕ → Type 0
IsFirstPast [] k = ⊥
IsFirstPast (z ∷ zs) zero = ¬ InRange z
IsFirstPast (z ∷ zs) (suc k) = InRange z × IsFirstPast zs k

-- the last step, or `before` if there is none
abbrev pub last_from : ℤ → List ℤ → ℤ
last_from before [] = before
last_from before (z ∷ zs) = last_from z zs
