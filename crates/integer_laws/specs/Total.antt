-- Sums of whole numbers: over the elements of a list, and over the numbers below a given one.
use Rattle.std.specs.Prelude.{ℕ, zero, suc, List, [], ◌∷◌, ℤ, pos, ◌+ℤ◌}

-- the sum of f over the elements
abbrev pub total : {X : Type 0} → (X → ℤ) → List X → ℤ
total f [] = pos 0
total f (x ∷ xs) = f x +ℤ total f xs

-- f 0 + .. + f (n - 1)
abbrev pub total_below : ℕ → (ℕ → ℤ) → ℤ
total_below zero f = pos 0
total_below (suc n) f = total_below n f +ℤ f n
