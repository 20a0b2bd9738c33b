-- A set of numbers below 256 as two sets of numbers below 128.
use Rattle.std.specs.Prelude.{ℕ, ◌+◌, ◌-◌, nat_lt, not, List, ◌++◌, map}
use Rattle.number_sets.specs.Sets.{IsSet, kept}

-- the numbers below 128, and 128 more than each number of the second
abbrev pub halves : List ℕ → List ℕ → List ℕ
halves l h = l ++ map (λ x. x + 128) h

abbrev pub lows : List ℕ → List ℕ
lows xs = kept (λ v. nat_lt v 128) xs

abbrev pub highs : List ℕ → List ℕ
highs xs = map (λ v. v - 128) (kept (λ v. not (nat_lt v 128)) xs)

pub record IsHalves (l h : List ℕ) : Type 0 where
  pub low : IsSet 128 l
  pub high : IsSet 128 h
