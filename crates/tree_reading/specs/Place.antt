-- Places in a text.
use Rattle.std.specs.Prelude.{◌≤◌, ◌<◌, ◌+◌, ℕ, List, length, drop}
use Rattle.tree_text_rules.specs.Line.{Line, lines_of}
use Rattle.tree_reading.specs.declared.cut.Cut.{Cut}

-- the lines of the bytes from a place on
abbrev pub lines_at : List ℕ → Cut → List Line
lines_at bytes cut = lines_of (drop cut.at bytes)

-- A place is within the bytes. As each line has a byte or more, its line number is at most one
-- more.
pub record IsCut (bytes : List ℕ) (cut : Cut) : Type 0 where
  pub within : cut.at ≤ length bytes
  pub number : cut.line ≤ cut.at + 1

-- after at least one line
pub record IsBehind (bytes : List ℕ) (cut behind : Cut) : Type 0 where
  pub is_cut : IsCut bytes behind
  pub later : cut.at < behind.at

-- after any number of lines
pub record IsReached (bytes : List ℕ) (cut behind : Cut) : Type 0 where
  pub is_cut : IsCut bytes behind
  pub later : cut.at ≤ behind.at
