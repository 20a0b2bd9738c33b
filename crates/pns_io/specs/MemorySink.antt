-- A sink in memory.
use Rattle.std.specs.Prelude.{◌≡◌, ◌==◌, ◌<◌, ◌+◌, ◌-◌, ◌⊎◌, ℕ, List, Option, Some, None, min}
use Rattle.std.specs.Prelude.{length, if◌then◌else◌}

-- what it has taken, its room, the put that fails with the count of bytes that it takes, and how
-- many puts there were and how many of them failed
pub record Sunk : Type 0 where
  pub bytes : List ℕ
  pub room : ℕ
  pub failing : Option (ℕ × ℕ)
  pub puts : ℕ
  pub failed : ℕ

-- the put of this number is the one that fails
abbrev pub IsFailing : Option (ℕ × ℕ) → ℕ → Type 0
IsFailing None puts = ⊥
IsFailing (Some fail) puts = fail.0 ≡ puts

-- how many bytes of a piece of this length the put of this number may take
abbrev pub allowed : Option (ℕ × ℕ) → ℕ → ℕ → ℕ
allowed None puts len = len
allowed (Some fail) puts len = if fail.0 == puts then min len fail.1 else len

-- how many bytes of a piece of this length the next put takes
abbrev pub taken : Sunk → ℕ → ℕ
taken sink len = min (allowed sink.failing sink.puts len) (sink.room - length sink.bytes)

-- the next put of a piece of this length fails
abbrev pub Fails : Sunk → ℕ → Type 0
Fails sink len = IsFailing sink.failing sink.puts ⊎ (sink.room < length sink.bytes + len)
