-- A law over calls of a search in parts, on shelves that keep the files: what `part` put out for an
-- open leaf, `merge` puts back.
use Rattle.std.specs.Prelude.{◌≡◌, ◌⊎◌, ◌≤◌, ◌<◌, ◌++◌, ℕ, List, [], ◌∷◌, Some, length, codes}
use Rattle.std.specs.Prelude.{decimal}
use Rattle.studio.specs.studio_rules.TreeFile.{tree_limit}
use Rattle.studio.specs.studio_rules.Command.{Splitting, Parting, PartingAgainst, Merging}
use Rattle.studio.specs.studio_rules.Lines.{line, text_of}
use Rattle.studio.specs.studio_rules.Ending.{IsOneOf}
use Rattle.studio.specs.studio_rules.declared.status.Status.TheVariants.{Done, Spent, Past, TooLong}
use Rattle.studio.specs.Calls.{Call, Calls, Puts, Holds, Keep, EndsWith, HasFailed}

-- the line by which `split` lists an open leaf, with the two words of its node
abbrev pub leaf_line : ℕ → List ℕ → List ℕ → List ℕ
leaf_line number inside outside = codes "part " ++ decimal number ++ 32 ∷ inside ++ 32 ∷ outside

-- a call of `part` from the node of the two words, with or without a tree whose network is known
abbrev pub PartsFrom : Call → List ℕ → List ℕ → List ℕ → Type 0
PartsFrom c file inside outside =
    ((budget : ℕ) × Calls c (Parting file inside outside budget))
    ⊎ ((budget : ℕ) × (known : List ℕ) × Calls c (PartingAgainst file inside outside budget known))

-- it ended with the text of a part, of a search that finished or stopped, and standard output shows
-- that it put out just the text
pub record Finds (c : Call) (text : List ℕ) : Type 0 where
  pub status : IsOneOf (Done ∷ Spent ∷ Past ∷ []) c.status
  pub front : List ℕ
  pub before : c.out_before.out.written ≡ Some front
  pub after : c.out_after.out.written ≡ Some (front ++ text)

-- it put the part back, or said that the text of the named file is above the limit of trees
abbrev pub Takes : Call → List ℕ → List ℕ → Type 0
Takes c name text =
    ((length text ≤ tree_limit) × ((grown : List ℕ) × EndsWith c Done grown))
    ⊎ ((tree_limit < length text) × EndsWith c TooLong (line (codes "too long " ++ name)))

-- What `part` put out from the node of an open leaf of TREE, which `split` listed, and is kept as
-- PART, `merge` puts back in TREE, with the same problem file.
abbrev pub MergeTakesPart : Type 0
MergeTakesPart =
    (splitting parting merging : Call) (file tree part : List ℕ) (before behind : List (List ℕ))
    (number : ℕ) (inside outside text : List ℕ)
    → Calls splitting (Splitting file tree)
    → Puts splitting (text_of (before ++ leaf_line number inside outside ∷ behind))
    → PartsFrom parting file inside outside → Finds parting text → Keep splitting parting file
    → Calls merging (Merging file tree (part ∷ [])) → Keep splitting merging file
    → Keep splitting merging tree → Holds merging part text
    → Takes merging part text ⊎ HasFailed merging
