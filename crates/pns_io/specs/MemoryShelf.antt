-- A shelf in memory.
use Rattle.std.specs.Prelude.{ℕ, List}

-- its files, the numbers of the calls that fail, and how many calls there were and how many of them
-- failed
pub record Shelved : Type 0 where
  pub files : List (List ℕ × List ℕ)
  pub failing : List ℕ
  pub calls : ℕ
  pub failed : ℕ
