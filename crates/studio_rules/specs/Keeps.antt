-- What a call leaves of the shelf that it reads from: the files as they are, and no count of faults
-- lower.
use Rattle.std.specs.Prelude.{◌≡◌, ◌≤◌, ℕ, List}
use Rattle.report_rules.specs.text_rules.State.{ShelfState}

-- the shelf, old before a call and new after it, says the same of each file, and no count of its
-- faults fell
pub record Keeps (old new : ShelfState) : Type 0 where
  pub held : (name : List ℕ) → new.held name ≡ old.held name
  pub later : (name : List ℕ) → old.faults name ≤ new.faults name
