-- `expand`, `solve` and `check` certify `periods`, over calls on shelves that keep the files.
use Rattle.std.specs.Prelude.{◌≡◌, ◌⊎◌, ℕ, List}
use Rattle.studio.specs.studio_rules.Command.{Checking, Expanding, Solving, Planning}
use Rattle.studio.specs.studio_rules.Lines.{text_of}
use Rattle.studio.specs.Calls.{Call, Calls, Puts, Holds, Accepts, HasFailed}
use Rattle.call_laws.specs.Periods.{Certifies}

-- two texts, of `solve` and of `periods`, with one cost
pub record TextCertifies (bytes script solved planned : List ℕ) : Type 0 where
  pub solve_lines : List (List ℕ)
  pub period_lines : List (List ℕ)
  pub solved_is : solved ≡ text_of solve_lines
  pub planned_is : planned ≡ text_of period_lines
  pub certifies : Certifies bytes script solve_lines period_lines

-- What `expand` put out is kept, and what `solve` put out of that file is kept as a tree: it has
-- the cost of what `periods` put out, and `check` accepts it.
abbrev pub CheckCertifiesPeriods : Type 0
CheckCertifiesPeriods =
    (expanding solving planning checking : Call) (file plan kept tree : List ℕ) (budget other : ℕ)
    (bytes script wide solved planned : List ℕ)
    → Calls expanding (Expanding file plan) → Puts expanding wide → Holds expanding file bytes
    → Holds expanding plan script
    → Calls solving (Solving kept budget) → Puts solving solved → Holds solving kept wide
    → Calls planning (Planning file plan other) → Puts planning planned → Holds planning file bytes
    → Holds planning plan script
    → Calls checking (Checking kept tree) → Holds checking kept wide → Holds checking tree solved
    → TextCertifies bytes script solved planned
    × (Accepts checking tree solved ⊎ HasFailed checking)
