-- A number for a list of n fractions that grows as the list does in the lexicographic order.
use Rattle.std.specs.Prelude.{ℕ, zero, suc, ◌+◌, ◌*◌, ◌/◌, ◌<◌, ℤ, pos, ◌+ℤ◌, ◌*ℤ◌, ◌<ℤ◌, ◌≤ℤ◌}
use Rattle.std.specs.Prelude.{unsigned_abs}

-- the digits read as a number in the base w, the first digit the highest
abbrev pub number : ℕ → ℕ → (ℕ → ℕ) → ℕ
number w zero f = 0
number w (suc n) f = number w n f * w + f n

-- fractions with denominators of at most m that differ have other digits
abbrev pub digit : ℕ → ℕ → ℕ → ℕ
digit m num den = num * (m * m) / den

-- w to the n
abbrev pub power : ℕ → ℕ → ℕ
power w zero = 1
power w (suc n) = power w n * w

-- The rank of a list of n fractions of numbers of at most m.
abbrev pub rank : ℕ → ℕ → (ℕ → ℤ) → (ℕ → ℤ) → ℕ
rank m n top bottom =
    number (2 * m * (m * m) + 1) n
    (λ q. digit m (unsigned_abs (top q +ℤ pos m *ℤ bottom q)) (unsigned_abs (bottom q)))

-- the fractions have positive denominators, and no number is above m
pub record IsWithin (m n : ℕ) (top bottom : ℕ → ℤ) : Type 0 where
  pub positive : (q : ℕ) → q < n → pos 0 <ℤ bottom q
  pub bottom_most : (q : ℕ) → q < n → bottom q ≤ℤ pos m
  pub top_least : (q : ℕ) → q < n → pos 0 ≤ℤ (top q +ℤ pos m)
  pub top_most : (q : ℕ) → q < n → top q ≤ℤ pos m
