-- Parts that are put back in turn, each into what the ones before it gave. If there are no parts,
-- the claim and the tree stay as they are, and are not judged.
use Rattle.std.specs.Prelude.{◌≡◌, ◌<◌, ℕ, List, [], ◌∷◌, length, take, get_or}
use Rattle.edit_rules.specs.problem_rules.Problem.{Problem}
use Rattle.tree_rules.specs.Claim as rules
use Rattle.tree_rules.specs.Accepted as trees
use Rattle.tree_text_rules.specs.declared.merge_fault.MergeFault.{MergeFault}
use Rattle.tree_text_rules.specs.Part as parts
use Rattle.tree_text_rules.specs.Merge.{IsMerged, MergeFails}

abbrev pub AreMerged : Problem → rules.Claim → trees.Tree → List parts.Part → rules.Claim
    → trees.Tree → Type 0
AreMerged p claim tree [] both whole = (both ≡ claim) × (whole ≡ tree)
AreMerged p claim tree (part ∷ more) both whole =
    (next : rules.Claim) × (grown : trees.Tree) × IsMerged p claim tree part next grown
    × AreMerged p next grown more both whole

-- the parts before the one at this place are put back, and this one is not
pub record StopsAt (p : Problem) (claim : rules.Claim) (tree : trees.Tree) (ps : List parts.Part)
    (at : ℕ) (fault : MergeFault) : Type 0 where
  pub next : rules.Claim
  pub grown : trees.Tree
  pub part : parts.Part
  pub within : at < length ps
  pub part_is : part ≡ get_or ps at part
  pub before : AreMerged p claim tree (take at ps) next grown
  pub fails : MergeFails p next grown part fault
