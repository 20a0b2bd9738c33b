-- TREE is read and judged after FILE by the grammar of trees with a head: a claim, a head that may
-- have no lines, a tree and a tail.
use Rattle.std.specs.Prelude.{◌≡◌, ◌≤◌, ◌⊎◌, ℕ, List, [], ◌∷◌, Ok, Err, length}
use Rattle.report_rules.specs.text_rules.Outside.{Told}
use Rattle.report_rules.specs.problem_rules.Problem.{Problem}
use Rattle.report_rules.specs.tree_rules.Claim.{Claim}
use Rattle.report_rules.specs.tree_rules.Accepted.{Tree}
use Rattle.report_rules.specs.tree_text_rules.declared.TreeKind.{TreeKind}
use Rattle.report_rules.specs.tree_text_rules.Read.{HeadedCertificate, read_headed_text}
use Rattle.studio_rules.specs.Reading.{AreHeld, IsLong, OnSecond}
use Rattle.studio_rules.specs.TreeFile.{tree_limit, tree_fault_line}
use Rattle.studio_rules.specs.declared.status.Status.{Status}
use Rattle.studio_rules.specs.declared.status.Status.TheVariants.{BadTree, TooLong}

-- A file that gives no tree for the problem: it is above the limit, or has a fault, which is
-- reported with its line and kind.
abbrev pub HeadedFault : List ℕ → Problem → List ℕ → Status → List (List ℕ) → Type 0
HeadedFault name p file TooLong lines = IsLong name tree_limit file lines
HeadedFault name p file BadTree lines =
    (length file ≤ tree_limit)
    × ((line : ℕ) × (kind : TreeKind) × (read_headed_text p file ≡ Err (line, kind))
    × (lines ≡ tree_fault_line line kind ∷ []))
HeadedFault name p file status lines = ⊥

-- a file within the limit, whose text stands for a claim, a head, a tree and a tail
abbrev pub GivesHeaded : Problem → List ℕ → HeadedCertificate → Type 0
GivesHeaded p file text = (length file ≤ tree_limit) × (read_headed_text p file ≡ Ok text)

-- what reading and judging the named file says if it gives no tree for the problem
abbrev pub HeadedFaults : (List ℕ → Told) → List ℕ → Problem → Status → List (List ℕ) → Type 0
HeadedFaults held name p status lines = (file : List ℕ) × AreHeld (held name) file
    × HeadedFault name p file status lines

-- The status and lines of the work on a problem and what a file says: those of a file that gives no
-- tree, else those of the work.
abbrev pub HeadedSays : (Problem → HeadedCertificate → Status → List (List ℕ) → Type 0) → List ℕ
    → Problem → List ℕ → Status → List (List ℕ) → Type 0
HeadedSays work name p file status lines =
    HeadedFault name p file status lines
    ⊎ ((text : HeadedCertificate) × GivesHeaded p file text × work p text status lines)

abbrev pub OnHeaded : (Problem → HeadedCertificate → Status → List (List ℕ) → Type 0)
    → (List ℕ → Told) → List ℕ → Problem → Status → List (List ℕ) → Type 0
OnHeaded work held name = OnSecond (HeadedSays work name) held name

-- work on the claim and the tree alone, whatever the head is
abbrev pub AnyHead : (Problem → Claim → Tree → Status → List (List ℕ) → Type 0) → Problem
    → HeadedCertificate → Status → List (List ℕ) → Type 0
AnyHead work p text status lines = work p text.claim text.tree status lines
