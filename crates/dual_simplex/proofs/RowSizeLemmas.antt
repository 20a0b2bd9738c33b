-- Sizes of the numbers of a program.
use Rattle.std.proofs.Common.{◌≡◌, ℕ, zero, suc, ◌*◌, ◌+◌, ◌<◌, ◌≤◌, ◌^◌, arith, ℤ, pos, ◌+ℤ◌, ◌-ℤ◌}
use Rattle.std.proofs.Common.{◌*ℤ◌, SFits, List, [], ◌∷◌, length, get_or}
use Rattle.std.specs.Prelude.{unsigned_abs}
use Rattle.std.specs.Int.{w128}
use Rattle.std.proofs.lemmas.Int.{ints, unsigned_abs-mul, fits_signed_from_abs}
use Rattle.std.proofs.Math.Nat.{mul-le-mul}
use Rattle.flow_program.proofs.number_sets.Cited.{length_below}
use Rattle.flow_program.specs.flow_rules.Program.{Program, AreRanges, IsProgram}

pub size_mul : (a b : ℤ) (m n : ℕ) → unsigned_abs a ≤ m → unsigned_abs b ≤ n
    → unsigned_abs (a *ℤ b) ≤ m * n
size_mul a b m n h k = rw (unsigned_abs-mul a b) (mul-le-mul h k)

pub fits_small : (z : ℤ) → unsigned_abs z ≤ 10 ^ 38 → SFits w128 z
fits_small z h = fits_signed_from_abs w128 z (omega arith)

pub few_units : (q : Program) → IsProgram q → length q.units ≤ 128
few_units q valid = length_below 128 q.units valid.units_set.rising valid.units_set.below

pub few_rows : (q : Program) → IsProgram q → length q.rows ≤ 256
few_rows q valid = length_below 256 q.rows valid.rows_set.rising valid.rows_set.below

-- the ends of the range at a place
pub low_small : (limit : ℕ) (lows highs : List ℤ) (i : ℕ) → AreRanges limit lows highs
    → i < length lows → unsigned_abs (get_or lows i (pos 0)) ≤ limit
low_small limit [] highs i r h = absurd (omega arith)
low_small limit (low ∷ lows) [] i r h = absurd r
low_small limit (low ∷ lows) (high ∷ highs) zero r h = r.0
low_small limit (low ∷ lows) (high ∷ highs) (suc i) r h =
    low_small limit lows highs i r.3 (omega arith)

pub high_small : (limit : ℕ) (lows highs : List ℤ) (i : ℕ) → AreRanges limit lows highs
    → i < length lows → unsigned_abs (get_or highs i (pos 0)) ≤ limit
high_small limit [] highs i r h = absurd (omega arith)
high_small limit (low ∷ lows) [] i r h = absurd r
high_small limit (low ∷ lows) (high ∷ highs) zero r h = r.1
high_small limit (low ∷ lows) (high ∷ highs) (suc i) r h =
    high_small limit lows highs i r.3 (omega arith)

pub as_many_highs : (limit : ℕ) (lows highs : List ℤ) → AreRanges limit lows highs
    → length highs ≡ length lows
as_many_highs limit [] [] r = omega arith
as_many_highs limit [] (high ∷ highs) r = absurd r
as_many_highs limit (low ∷ lows) [] r = absurd r
as_many_highs limit (low ∷ lows) (high ∷ highs) r = let e =
    as_many_highs limit lows highs r.3 in omega arith
