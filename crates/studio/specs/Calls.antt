-- Laws over calls of `studio` one after another: what one call put out another accepts, or goes on
-- from, if the problem file stays as it is between the calls.
use Rattle.std.specs.Prelude.{◌≡◌, ◌⊎◌, ◌≤◌, ◌<◌, ◌+◌, ◌++◌, ℕ, List, [], ◌∷◌, Some, length, codes}
use Rattle.structure_commands.specs.text_rules.State.{ShelfState, OutputsState}
use Rattle.structure_commands.specs.studio_rules.TreeFile.{tree_limit}
use Rattle.structure_commands.specs.studio_rules.Command.{Command, Listing, Checking, RankChecking}
use Rattle.structure_commands.specs.studio_rules.Command.{Solving, Ranking}
use Rattle.structure_commands.specs.studio_rules.Command.{Alternatives}
use Rattle.structure_commands.specs.studio_rules.Command.{Splitting, Merging, command_of}
use Rattle.structure_commands.specs.studio_rules.Lines.{line, text_of}
use Rattle.structure_commands.specs.studio_rules.Ending.{Finishes, Writes, IsOneOf}
use Rattle.structure_commands.specs.studio_rules.Keeps.{Keeps}
use Rattle.structure_commands.specs.studio_rules.declared.status.Status.{Status}
use Rattle.structure_commands.specs.studio_rules.declared.status.Status.TheVariants.{Done}
use Rattle.structure_commands.specs.studio_rules.declared.status.Status.TheVariants.{ReadFault}
use Rattle.structure_commands.specs.studio_rules.declared.status.Status.TheVariants.{WriteFault}
use Rattle.structure_commands.specs.studio_rules.declared.status.Status.TheVariants.{Memory}
use Rattle.structure_commands.specs.studio_rules.declared.status.Status.TheVariants.{TooLong}
use Rattle.structure_commands.specs.studio_rules.Answers.{WordsSay}

-- A call: its words, the shelf and the outputs before and after, and the status with which the call
-- ended.
pub record Call : Type 0 where
  pub words : List (List ℕ)
  pub shelf_before : ShelfState
  pub shelf_after : ShelfState
  pub out_before : OutputsState
  pub out_after : OutputsState
  pub status : Status

-- what `studio` says of it: the clause `ends`, and the clauses `keeps` and `later`
pub record IsCall (c : Call) : Type 0 where
  pub ends : Finishes (WordsSay c.shelf_before c.shelf_after c.words) c.out_before c.out_after
      c.status
  pub keeps : Keeps c.shelf_before c.shelf_after

-- a call of the command
pub record Calls (c : Call) (command : Command) : Type 0 where
  pub call : IsCall c
  pub form : command_of c.words ≡ Some command

-- it ended with status 0, and standard output shows that it put out just the text
pub record Puts (c : Call) (text : List ℕ) : Type 0 where
  pub done : c.status ≡ Done
  pub front : List ℕ
  pub before : c.out_before.out.written ≡ Some front
  pub after : c.out_after.out.written ≡ Some (front ++ text)

-- the shelf of a call knows before it that the file has the bytes
abbrev pub Holds : Call → List ℕ → List ℕ → Type 0
Holds c name bytes = c.shelf_before.held name ≡ Some (Some bytes)

-- Between two calls the file stays as it is. The shelf knows after the first call that the file has
-- the bytes, and so before the second.
abbrev pub Keep : Call → Call → List ℕ → Type 0
Keep c d name =
    (bytes : List ℕ) × (c.shelf_after.held name ≡ Some (Some bytes)) × Holds d name bytes

-- it ended with the status and the text, or with a fault of reading, of an output or of memory
abbrev pub EndsWith : Call → Status → List ℕ → Type 0
EndsWith c status text = (c.status ≡ status) × Writes c.out_before c.out_after status text

abbrev pub HasFailed : Call → Type 0
HasFailed c = IsOneOf (ReadFault ∷ WriteFault ∷ Memory ∷ []) c.status

-- it accepted the text of the named file, or said that it is above the limit of trees
abbrev pub Accepts : Call → List ℕ → List ℕ → Type 0
Accepts c name text =
    ((length text ≤ tree_limit) × EndsWith c Done (line (codes "accepted")))
    ⊎ ((tree_limit < length text) × EndsWith c TooLong (line (codes "too long " ++ name)))

-- What `solve` put out and is kept as TREE, `check` accepts with the same problem file.
abbrev pub CheckAcceptsSolved : Type 0
CheckAcceptsSolved =
    (solving checking : Call) (file tree : List ℕ) (budget : ℕ) (text : List ℕ)
    → Calls solving (Solving file budget) → Puts solving text
    → Calls checking (Checking file tree) → Keep solving checking file → Holds checking tree text
    → Accepts checking tree text ⊎ HasFailed checking

-- What `rank` put out and is kept as RANK, `rankcheck` accepts with the same problem file.
abbrev pub RankcheckAcceptsRanked : Type 0
RankcheckAcceptsRanked =
    (ranking checking : Call) (file rank : List ℕ) (count budget : ℕ) (text : List ℕ)
    → Calls ranking (Ranking file count budget) → Puts ranking text
    → Calls checking (RankChecking file rank) → Keep ranking checking file
    → Holds checking rank text
    → Accepts checking rank text ⊎ HasFailed checking

-- and what `alternatives` put out
abbrev pub RankcheckAcceptsAlternatives : Type 0
RankcheckAcceptsAlternatives =
    (listing checking : Call) (file rank : List ℕ) (count budget : ℕ) (text : List ℕ)
    → Calls listing (Alternatives file count budget) → Puts listing text
    → Calls checking (RankChecking file rank) → Keep listing checking file
    → Holds checking rank text
    → Accepts checking rank text ⊎ HasFailed checking

-- What `merge` put out and is kept as TREE, `check` accepts with the same problem file, if `split`
-- finds no open leaf in it.
abbrev pub CheckAcceptsMerged : Type 0
CheckAcceptsMerged =
    (merging splitting checking : Call) (file tree merged part : List ℕ) (parts : List (List ℕ))
    (text : List ℕ)
    → Calls merging (Merging file tree (part ∷ parts)) → Puts merging text
    → Calls splitting (Splitting file merged) → Puts splitting (line (codes "end"))
    → Keep merging splitting file → Holds splitting merged text
    → Calls checking (Checking file merged) → Keep splitting checking file
    → Holds checking merged text
    → Accepts checking merged text ⊎ HasFailed checking

-- What `list` put out for `m` structures, and then for `n` after the token of its last line, joins
-- to what it puts out for all of them at once. The text of the second call comes in the place of
-- the line `more`.
abbrev pub ListingsJoin : Type 0
ListingsJoin =
    (first second whole : Call) (file after token : List ℕ) (m n : ℕ) (lines : List (List ℕ))
    (rest : List ℕ) → 0 < m → 0 < n
    → Calls first (Listing file after m)
    → Puts first (text_of (lines ++ (codes "more " ++ token) ∷ []))
    → Calls second (Listing file token n) → Puts second rest → Keep first second file
    → Calls whole (Listing file after (m + n)) → Keep second whole file
    → EndsWith whole Done (text_of lines ++ rest) ⊎ HasFailed whole
