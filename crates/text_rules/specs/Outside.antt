-- What a read gives of a file, what a sink has taken, and when a count of faults has risen.
use Rattle.std.specs.Prelude.{◌≡◌, ◌<◌, ◌≤◌, ◌+◌, ◌⊎◌, ◌↔◌, ◌++◌, ℕ, List, Option, length, take}
use Rattle.std.specs.Prelude.{drop, min, IfSome, IsSomeAnd}
use Rattle.std.specs.Io.KnownBytes.{Appends}

-- The last value of a count of 64 bits, beyond which it does not go.
abbrev pub last_count : ℕ
last_count = 18446744073709551615

-- one more, or the last value
abbrev pub counted : ℕ → ℕ
counted count = min (count + 1) last_count

-- A count of faults has risen in a call. If it has its last value after the call, it counts as
-- risen.
abbrev pub HasRisen : ℕ → ℕ → Type 0
HasRisen before after = (before < after) ⊎ (after ≡ last_count)

-- The first k bytes of the buffer are those of the file from the place on. If the buffer is not
-- empty, k is 0 exactly at the end of the file.
pub record ReadsAt (file : List ℕ) (at : ℕ) (into : List ℕ) (k : ℕ) : Type 0 where
  pub bytes : take k into ≡ take k (drop at file)
  pub fits : at + k ≤ length file ⊎ (k ≡ 0)
  pub end : 0 < length into → (k ≡ 0) ↔ (length file ≤ at)

-- the bytes of an output, if known, grow by a front of the piece
abbrev pub AppendsFront : Option (List ℕ) → Option (List ℕ) → List ℕ → Type 0
AppendsFront old new piece = (front : List ℕ) × (rest : List ℕ) × (piece ≡ front ++ rest)
    × Appends old new front

-- k more bytes of the file follow those that were there, and k is 0 exactly at its end
pub record Continues (file old new : List ℕ) (k : ℕ) : Type 0 where
  pub bytes : new ≡ old ++ take k (drop (length old) file)
  pub fits : length old + k ≤ length file ⊎ (k ≡ 0)
  pub end : (k ≡ 0) ↔ (length file ≤ length old)

-- What a shelf says of a name: nothing, that there is no such file, or the bytes of its file.
abbrev pub Told : Type 0
Told = Option (Option (List ℕ))

-- true if the shelf says nothing; false if it says that there is no such file; else P is true of
-- the bytes
abbrev pub IfTold : Told → (List ℕ → Type 0) → Type 0
IfTold told P = IfSome told (λ file. IsSomeAnd file P)

-- the shelf says the bytes, and P is true of them
abbrev pub IsToldAnd : Told → (List ℕ → Type 0) → Type 0
IsToldAnd told P = IsSomeAnd told (λ file. IsSomeAnd file P)
