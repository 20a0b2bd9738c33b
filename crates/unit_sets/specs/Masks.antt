-- A mask of 128 bits as the rising list of its bits.
use Rattle.std.specs.Prelude.{ℕ, ◌==◌, Bool, List}
use Rattle.std.specs.Int.{bit_at}
use Rattle.number_sets.specs.Sets.{listed}

-- whether bit u of n is set
abbrev pub has_bit : ℕ → ℕ → Bool
has_bit n u = bit_at n u == 1

-- the numbers of the bits that are set
unfoldable pub members : ℕ → List ℕ
members n = listed 128 (has_bit n)
