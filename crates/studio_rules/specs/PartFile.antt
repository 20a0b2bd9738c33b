-- PART is read and judged by its grammar after TREE: a node, a claim, a tree and a tail. If there
-- are several, a line that speaks of one names its file.
use Rattle.std.specs.Prelude.{◌≡◌, ◌≤◌, ◌<◌, ◌++◌, ℕ, Bool, true, false, List, [], ◌∷◌, Ok, Err}
use Rattle.std.specs.Prelude.{length, take, get_or, nat_lt, codes, decimal}
use Rattle.report_rules.specs.text_rules.Outside.{Told}
use Rattle.report_rules.specs.problem_rules.Problem.{Problem}
use Rattle.report_rules.specs.tree_text_rules.declared.TreeKind.{TreeKind}
use Rattle.report_rules.specs.tree_text_rules.Part.{Part}
use Rattle.report_rules.specs.tree_text_rules.PartRead.{PartReads}
use Rattle.studio_rules.specs.Reading.{AreHeld, IsLong}
use Rattle.studio_rules.specs.TreeFile.{tree_limit, tree_kind_word}
use Rattle.studio_rules.specs.declared.status.Status.{Status}
use Rattle.studio_rules.specs.declared.status.Status.TheVariants.{BadTree, TooLong}

-- by which words a line speaks of a part
abbrev pub part_words : Bool → List ℕ → List ℕ
part_words true name = codes "part " ++ name
part_words false name = codes "part"

-- whether there are several
abbrev pub are_several : List (List ℕ) → Bool
are_several names = nat_lt 1 (length names)

abbrev pub part_fault_line : Bool → List ℕ → ℕ → TreeKind → List ℕ
part_fault_line several name line kind =
    part_words several name ++ codes " line " ++ decimal line ++ 32 ∷ tree_kind_word kind

-- A file that gives no part for the problem: it is above the limit, or has a fault, which is
-- reported with its line and kind.
abbrev pub PartFault : Bool → List ℕ → Problem → List ℕ → Status → List (List ℕ) → Type 0
PartFault several name p file TooLong lines = IsLong name tree_limit file lines
PartFault several name p file BadTree lines =
    (length file ≤ tree_limit)
    × ((line : ℕ) × (kind : TreeKind) × PartReads p file (Err (line, kind))
    × (lines ≡ part_fault_line several name line kind ∷ []))
PartFault several name p file status lines = ⊥

-- a file within the limit, whose text stands for the part
abbrev pub GivesPart : Problem → List ℕ → Part → Type 0
GivesPart p file part = (length file ≤ tree_limit) × PartReads p file (Ok part)

-- what reading and judging the named part says if it gives none for the problem
abbrev pub PartFaults : Bool → (List ℕ → Told) → List ℕ → Problem → Status → List (List ℕ) → Type 0
PartFaults several held name p status lines =
    (file : List ℕ) × AreHeld (held name) file × PartFault several name p file status lines

-- the named files give these parts, in order
abbrev pub GiveParts : (List ℕ → Told) → Problem → List (List ℕ) → List Part → Type 0
GiveParts held p [] [] = Unit {0}
GiveParts held p (name ∷ names) (part ∷ parts) =
    ((file : List ℕ) × AreHeld (held name) file × GivesPart p file part)
    × GiveParts held p names parts
GiveParts held p names parts = ⊥

-- the files before the one at this place give parts, and it gives none
pub record FirstFault (held : List ℕ → Told) (names : List (List ℕ)) (p : Problem) (status : Status)
    (lines : List (List ℕ)) : Type 0 where
  pub place : ℕ
  pub name : List ℕ
  pub parts : List Part
  pub within : place < length names
  pub name_is : name ≡ get_or names place name
  pub before : GiveParts held p (take place names) parts
  pub fault : PartFaults (are_several names) held name p status lines
