-- The state of a shelf, from which files are read by name, and of a sink, which takes bytes.
use Rattle.std.specs.Prelude.{ℕ, List, Option}
use Rattle.text_rules.specs.Outside.{Told}

-- what a shelf says of each name, and its count of faults for each name
pub record ShelfState : Type 0 where
  pub held : List ℕ → Told
  pub faults : List ℕ → ℕ

-- the bytes that a sink has taken, if it says them, and its count of faults
pub record SinkState : Type 0 where
  pub written : Option (List ℕ)
  pub faults : ℕ

-- the states of the two outputs of a call
pub record OutputsState : Type 0 where
  pub out : SinkState
  pub err : SinkState
