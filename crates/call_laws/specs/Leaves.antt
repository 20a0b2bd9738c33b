-- A law over what `solve`, `split` and `part` answer: an open leaf of a search whose budget is
-- spent is no bad node.
use Rattle.std.specs.Prelude.{◌≡◌, ◌⊎◌, ◌++◌, ℕ, List, ◌∷◌, Some}
use Rattle.studio.specs.text_rules.Outside.{Told}
use Rattle.studio.specs.studio_rules.Lines.{text_of}
use Rattle.studio.specs.studio_rules.Command.{Solving, Splitting, Parting, PartingAgainst}
use Rattle.studio.specs.studio_rules.Answers.{CommandAnswers}
use Rattle.studio.specs.studio_rules.declared.status.Status.{Status}
use Rattle.studio.specs.studio_rules.declared.status.Status.TheVariants.{Done, Spent, BadNode}
use Rattle.call_laws.specs.Parts.{leaf_line}

-- the status and lines of `part` from the node of the two words, with or without a tree whose
-- network is known
abbrev pub PartAnswers : (List ℕ → Told) → List ℕ → List ℕ → List ℕ → Status
    → List (List ℕ) → Type 0
PartAnswers held file inside outside status lines =
    ((budget : ℕ) × CommandAnswers held (Parting file inside outside budget) status lines)
    ⊎ ((budget : ℕ) × (known : List ℕ)
    × CommandAnswers held (PartingAgainst file inside outside budget known) status lines)

-- Let `solve` print the text of a search whose budget is spent, and let TREE be this text. Let
-- `split` list an open leaf of TREE, and let FILE have the same bytes at each of the three calls.
-- Then `part` from the two words of this leaf does not answer `bad node`.
abbrev pub SpentLeavesAreNodes : Type 0
SpentLeavesAreNodes =
    (solving splitting parting : List ℕ → Told) (file tree bytes : List ℕ)
    → solving file ≡ Some (Some bytes)
    → splitting file ≡ Some (Some bytes)
    → parting file ≡ Some (Some bytes)
    → (budget : ℕ) (solved : List (List ℕ))
    → CommandAnswers solving (Solving file budget) Spent solved
    → splitting tree ≡ Some (Some (text_of solved))
    → (number : ℕ) (inside outside : List ℕ) (before behind : List (List ℕ))
    → CommandAnswers splitting (Splitting file tree) Done
    (before ++ leaf_line number inside outside ∷ behind)
    → (status : Status) (lines : List (List ℕ))
    → PartAnswers parting file inside outside status lines
    → status ≡ BadNode → ⊥
