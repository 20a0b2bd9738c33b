-- The first of the least.
use Rattle.std.specs.Prelude.{◌≡◌, ℕ, ℤ, ◌<ℤ◌, ◌≤ℤ◌, List, [], ◌∷◌, ◌⊎◌, int_lt, cond}

-- f is at least b at each number of the list
abbrev pub AreAtLeast : (ℕ → ℤ) → ℤ → List ℕ → Type 0
AreAtLeast f b [] = Unit {0}
AreAtLeast f b (x ∷ xs) = (b ≤ℤ f x) × AreAtLeast f b xs

-- of the numbers of the list at which f is least, m is the first
abbrev pub IsFirstLeast : (ℕ → ℤ) → ℕ → List ℕ → Type 0
IsFirstLeast f m [] = ⊥
IsFirstLeast f m (x ∷ xs) = ((x ≡ m) × AreAtLeast f (f m) xs) ⊎ ((f m <ℤ f x) × IsFirstLeast f m xs)

-- the first of the least of b and the numbers of the list
abbrev pub least_from : (ℕ → ℤ) → ℕ → List ℕ → ℕ
least_from f b [] = b
least_from f b (x ∷ xs) = least_from f (cond (int_lt (f x) (f b)) x b) xs
