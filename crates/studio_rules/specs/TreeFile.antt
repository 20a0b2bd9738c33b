-- TREE is read and judged by its grammar after FILE: a claim, a tree and a tail.
use Rattle.std.specs.Prelude.{◌≡◌, ◌≤◌, ◌⊎◌, ◌++◌, ℕ, List, [], ◌∷◌, Ok, Err, length, codes}
use Rattle.std.specs.Prelude.{decimal}
use Rattle.report_rules.specs.text_rules.Outside.{Told}
use Rattle.report_rules.specs.problem_rules.Problem.{Problem}
use Rattle.report_rules.specs.tree_rules.Claim.{Claim}
use Rattle.report_rules.specs.tree_rules.Accepted.{Tree}
use Rattle.report_rules.specs.tree_rules.Tail.{Tail}
use Rattle.report_rules.specs.tree_text_rules.declared.TreeKind.{TreeKind}
use Rattle.report_rules.specs.tree_text_rules.declared.TreeKind.TheVariants.{FileType, BadLine}
use Rattle.report_rules.specs.tree_text_rules.declared.TreeKind.TheVariants.{UnknownName}
use Rattle.report_rules.specs.tree_text_rules.declared.TreeKind.TheVariants.{BadNumber, Order}
use Rattle.report_rules.specs.tree_text_rules.declared.TreeKind.TheVariants.{WrongCount}
use Rattle.report_rules.specs.tree_text_rules.declared.TreeKind.TheVariants.{MoreNodes, FewerNodes}
use Rattle.report_rules.specs.tree_text_rules.declared.TreeKind.TheVariants.{AfterEnd}
use Rattle.report_rules.specs.tree_text_rules.Read.{read_text}
use Rattle.studio_rules.specs.Reading.{AreHeld, IsLong, OnSecond}
use Rattle.studio_rules.specs.declared.status.Status.{Status}
use Rattle.studio_rules.specs.declared.status.Status.TheVariants.{BadTree, TooLong}

-- the most bytes of a tree file
abbrev pub tree_limit : ℕ
tree_limit = 268435456

-- the word for a kind of fault
abbrev pub tree_kind_word : TreeKind → List ℕ
tree_kind_word FileType = codes "FileType"
tree_kind_word BadLine = codes "BadLine"
tree_kind_word UnknownName = codes "UnknownName"
tree_kind_word BadNumber = codes "BadNumber"
tree_kind_word Order = codes "Order"
tree_kind_word WrongCount = codes "WrongCount"
tree_kind_word MoreNodes = codes "MoreNodes"
tree_kind_word FewerNodes = codes "FewerNodes"
tree_kind_word AfterEnd = codes "AfterEnd"

abbrev pub tree_fault_line : ℕ → TreeKind → List ℕ
tree_fault_line line kind = codes "tree line " ++ decimal line ++ 32 ∷ tree_kind_word kind

-- A file that gives no tree for the problem: it is above the limit, or has a fault, which is
-- reported with its line and kind.
abbrev pub TreeFault : List ℕ → Problem → List ℕ → Status → List (List ℕ) → Type 0
TreeFault name p file TooLong lines = IsLong name tree_limit file lines
TreeFault name p file BadTree lines =
    (length file ≤ tree_limit)
    × ((line : ℕ) × (kind : TreeKind) × (read_text p file ≡ Err (line, kind))
    × (lines ≡ tree_fault_line line kind ∷ []))
TreeFault name p file status lines = ⊥

-- A file within the limit, whose text stands for the claim and the tree. Its tail does not matter.
abbrev pub GivesTree : Problem → List ℕ → Claim → Tree → Type 0
GivesTree p file claim tree = (length file ≤ tree_limit)
    × ((tail : Tail) × (read_text p file ≡ Ok (record { claim = claim; tree = tree; tail = tail })))

-- what reading and judging the named tree says if it gives none for the problem
abbrev pub TreeFaults : (List ℕ → Told) → List ℕ → Problem → Status → List (List ℕ) → Type 0
TreeFaults held name p status lines = (file : List ℕ) × AreHeld (held name) file
    × TreeFault name p file status lines

-- The status and lines of the work on a problem and the claim and tree of a file: those of a file
-- that gives none, else those of the work.
abbrev pub TreeSays : (Problem → Claim → Tree → Status → List (List ℕ) → Type 0) → List ℕ → Problem
    → List ℕ → Status → List (List ℕ) → Type 0
TreeSays work name p file status lines =
    TreeFault name p file status lines
    ⊎ ((claim : Claim) × (tree : Tree) × GivesTree p file claim tree
    × work p claim tree status lines)

abbrev pub OnTree : (Problem → Claim → Tree → Status → List (List ℕ) → Type 0) → (List ℕ → Told)
    → List ℕ → Problem → Status → List (List ℕ) → Type 0
OnTree work held name = OnSecond (TreeSays work name) held name
