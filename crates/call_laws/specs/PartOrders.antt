-- What `merge` prints does not depend on the order in which its parts are named: it is the text of
-- one tree, with claims of one cost.
use Rattle.std.specs.Prelude.{◌≡◌, ℕ, List, Some, IsPermutation}
use Rattle.studio.specs.text_rules.Outside.{Told}
use Rattle.studio.specs.problem_rules.Each.{Each}
use Rattle.studio.specs.problem_rules.Problem.{Problem}
use Rattle.studio.specs.tree_rules.Claim.{Claim}
use Rattle.studio.specs.tree_rules.Accepted.{Tree}
use Rattle.studio.specs.tree_rules.Tail.{whole}
use Rattle.studio.specs.tree_text_rules.Part.{Part}
use Rattle.studio.specs.tree_text_rules.Merge.{IsLeafOf}
use Rattle.studio.specs.tree_parts.Order.{SameCost, StartApart}
use Rattle.studio.specs.studio_rules.Causes.{AreTold}
use Rattle.studio.specs.studio_rules.Command.{Merging}
use Rattle.studio.specs.studio_rules.Reading.{GivesProblem}
use Rattle.studio.specs.studio_rules.Solve.{AreTextOf}
use Rattle.studio.specs.studio_rules.TreeFile.{GivesTree}
use Rattle.studio.specs.studio_rules.PartFile.{GiveParts}
use Rattle.studio.specs.studio_rules.declared.status.Status.{Status}
use Rattle.studio.specs.studio_rules.declared.status.Status.TheVariants.{Done}
use Rattle.studio.specs.studio_rules.Answers.{CommandAnswers}

-- ---- the files of a call

-- no two of the parts that the files give start at one node
abbrev pub GiveApart : (List ℕ → Told) → Problem → List (List ℕ) → Type 0
GiveApart held p names = (parts : List Part) → GiveParts held p names parts → StartApart parts

-- What the shelf has for a call of `merge`: FILE, which gives the problem, TREE, and the files of
-- the parts, no two of which start at one node.
pub record HoldsFiles (held : List ℕ → Told) (file tree : List ℕ) (names : List (List ℕ))
    (p : Problem) : Type 0 where
  pub bytes : List ℕ
  pub text : List ℕ
  pub file_is : held file ≡ Some (Some bytes)
  pub gives : GivesProblem bytes p
  pub tree_is : held tree ≡ Some (Some text)
  pub told : AreTold held (Merging file tree names)
  pub apart : GiveApart held p names

-- each of the parts that the files give is for an open leaf of the tree that the text gives
abbrev pub AreForLeaves : (List ℕ → Told) → Problem → List ℕ → List (List ℕ) → Type 0
AreForLeaves held p text names =
    (claim : Claim) (tree : Tree) (parts : List Part) → GivesTree p text claim tree
    → GiveParts held p names parts → Each (λ part. (k : ℕ) × IsLeafOf p tree part k) parts

-- ---- two orders of the parts

-- Both texts are of one tree, and read as it; what they claim costs the same.
pub record PrintOneTree (p : Problem) (one two : List (List ℕ)) : Type 0 where
  pub first : Claim
  pub second : Claim
  pub tree : Tree
  pub first_prints : AreTextOf p (record { claim = first; tree = tree; tail = whole }) one
  pub second_prints : AreTextOf p (record { claim = second; tree = tree; tail = whole }) two
  pub same : SameCost first second

-- What `merge` prints with status 0 for two orders of the parts is of one tree and one cost.
abbrev pub MergesAgree : Type 0
MergesAgree =
    (held : List ℕ → Told) (file tree : List ℕ) (names others : List (List ℕ)) (p : Problem)
    (one two : List (List ℕ))
    → HoldsFiles held file tree names p → IsPermutation names others
    → CommandAnswers held (Merging file tree names) Done one
    → CommandAnswers held (Merging file tree others) Done two
    → PrintOneTree p one two

-- If each part is for an open leaf of TREE itself, and `merge` ends with status 0 for one order of
-- the parts, it does so for each other order, and prints what agrees.
abbrev pub EachOrderMerges : Type 0
EachOrderMerges =
    (held : List ℕ → Told) (file tree : List ℕ) (names others : List (List ℕ)) (p : Problem)
    (one two : List (List ℕ)) (status : Status)
    → (files : HoldsFiles held file tree names p) → AreForLeaves held p files.text names
    → IsPermutation names others
    → CommandAnswers held (Merging file tree names) Done one
    → CommandAnswers held (Merging file tree others) status two
    → (status ≡ Done) × PrintOneTree p one two
