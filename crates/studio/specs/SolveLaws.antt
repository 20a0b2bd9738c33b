-- A law over what `solve` and `check` print.
use Rattle.std.specs.Prelude.{◌≡◌, ◌⊎◌, ◌≤◌, ◌<◌, ◌++◌, ℕ, List, [], ◌∷◌, Some, length, codes}
use Rattle.structure_commands.specs.text_rules.Outside.{Told}
use Rattle.structure_commands.specs.studio_rules.Lines.{text_of}
use Rattle.structure_commands.specs.studio_rules.declared.status.Status.{Status}
use Rattle.structure_commands.specs.studio_rules.declared.status.Status.TheVariants.{Done, TooLong}
use Rattle.structure_commands.specs.studio_rules.Command.{Solving, Checking}
use Rattle.structure_commands.specs.studio_rules.TreeFile.{tree_limit}
use Rattle.structure_commands.specs.studio_rules.Answers.{CommandAnswers}

-- `accepted`, or that the tree file is too long if it is above its limit
abbrev pub IsAcceptedOrLong : List ℕ → List ℕ → Status → List (List ℕ) → Type 0
IsAcceptedOrLong name file status lines =
    ((length file ≤ tree_limit) × (status ≡ Done) × (lines ≡ codes "accepted" ∷ []))
    ⊎ ((tree_limit < length file) × (status ≡ TooLong) × (lines ≡ (codes "too long " ++ name) ∷ []))

-- What `solve` prints with status 0 is accepted by `check` with the same problem file, or it is too
-- long.
abbrev pub SolvedIsAccepted : Type 0
SolvedIsAccepted =
    (held : List ℕ → Told) (file tree bytes : List ℕ) (budget : ℕ) (solved : List (List ℕ))
    → held file ≡ Some (Some bytes)
    → CommandAnswers held (Solving file budget) Done solved
    → held tree ≡ Some (Some (text_of solved))
    → (status : Status) (checked : List (List ℕ))
    → CommandAnswers held (Checking file tree) status checked
    → IsAcceptedOrLong tree (text_of solved) status checked
