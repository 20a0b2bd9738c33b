-- `merge FILE TREE PART ..`: the parts are put back in turn, each in the place of the open leaf
-- whose node is its own. The tree that results is printed with what it proves but for its open
-- leaves. Or else the first part that is not put back is reported, with the cause.
use Rattle.std.specs.Prelude.{◌≡◌, ◌⊎◌, ◌++◌, ℕ, Bool, true, false, List, [], ◌∷◌, get_or, codes}
use Rattle.std.specs.Prelude.{decimal}
use Rattle.report_rules.specs.text_rules.Outside.{Told}
use Rattle.report_rules.specs.problem_rules.Problem.{Problem}
use Rattle.report_rules.specs.tree_rules.declared.why.Why.{Why}
use Rattle.report_rules.specs.tree_rules.Claim as claims
use Rattle.report_rules.specs.tree_rules.Accepted as trees
use Rattle.report_rules.specs.tree_rules.Tail.{whole}
use Rattle.report_rules.specs.tree_rules.declared.refusal.Refusal.{Refusal}
use Rattle.report_rules.specs.tree_rules.declared.refusal.Refusal.TheVariants.{Claim, Node, Memory}
use Rattle.report_rules.specs.tree_text_rules.Spelling.{tree_text_lines}
use Rattle.report_rules.specs.tree_text_rules.Part as parts
use Rattle.report_rules.specs.tree_text_rules.Several.{AreMerged, StopsAt}
use Rattle.report_rules.specs.tree_text_rules.declared.merge_fault.MergeFault.{MergeFault}
use Rattle.report_rules.specs.tree_text_rules.declared.merge_fault.MergeFault.TheVariants as faults
use Rattle.studio_rules.specs.RefusalWords.{why_word, claim_line, node_line}
use Rattle.studio_rules.specs.PartFile.{FirstFault, GiveParts, part_words, are_several}
use Rattle.studio_rules.specs.Printed.{spelled}
use Rattle.studio_rules.specs.declared.status.Status.{Status}
use Rattle.studio_rules.specs.declared.status.Status.TheVariants.{Done, NoLeaf, BadClaim}

abbrev pub part_claim_line : Bool → List ℕ → Why → List ℕ
part_claim_line several name why =
    codes "refused " ++ part_words several name ++ codes " claim " ++ why_word why

abbrev pub part_node_line : Bool → List ℕ → ℕ → Why → List ℕ
part_node_line several name node why =
    codes "refused " ++ part_words several name ++ codes " node " ++ decimal node ++ 32
    ∷ why_word why

abbrev pub no_leaf_line : Bool → List ℕ → List ℕ
no_leaf_line true name = codes "no leaf " ++ name
no_leaf_line false name = codes "no leaf"

-- why the tree is refused, and why a part is
abbrev pub TreeRefused : Refusal → Status → List (List ℕ) → Type 0
TreeRefused (Claim why) status lines = (status ≡ BadClaim) × (lines ≡ claim_line why ∷ [])
TreeRefused (Node node why) status lines = (status ≡ BadClaim) × (lines ≡ node_line node why ∷ [])
TreeRefused Memory status lines = ⊥

abbrev pub PartRefused : Bool → List ℕ → Refusal → Status → List (List ℕ) → Type 0
PartRefused several name (Claim why) status lines =
    (status ≡ BadClaim) × (lines ≡ part_claim_line several name why ∷ [])
PartRefused several name (Node node why) status lines =
    (status ≡ BadClaim) × (lines ≡ part_node_line several name node why ∷ [])
PartRefused several name Memory status lines = ⊥

-- why a part is not put back
abbrev pub FaultSays : Bool → List ℕ → MergeFault → Status → List (List ℕ) → Type 0
FaultSays several name (faults.Tree refusal) status lines = TreeRefused refusal status lines
FaultSays several name (faults.Part refusal) status lines =
    PartRefused several name refusal status lines
FaultSays several name faults.NoLeaf status lines =
    (status ≡ NoLeaf) × (lines ≡ no_leaf_line several name ∷ [])
FaultSays several name faults.Memory status lines = ⊥

-- all parts are put back, and the tree that results is printed
pub record MergedSays (p : Problem) (claim : claims.Claim) (tree : trees.Tree)
    (ps : List parts.Part) (status : Status) (lines : List (List ℕ)) : Type 0 where
  pub both : claims.Claim
  pub grown : trees.Tree
  pub merged : AreMerged p claim tree ps both grown
  pub done : status ≡ Done
  pub text : lines ≡ spelled (tree_text_lines p both grown whole)

-- the first part that is not put back is reported, with the name of its file if there are several
pub record StoppedSays (p : Problem) (claim : claims.Claim) (tree : trees.Tree)
    (names : List (List ℕ)) (ps : List parts.Part) (status : Status) (lines : List (List ℕ)) : Type
    0 where
  pub place : ℕ
  pub fault : MergeFault
  pub stops : StopsAt p claim tree ps place fault
  pub says : FaultSays (are_several names) (get_or names place []) fault status lines

abbrev pub MergeSays : List (List ℕ) → Problem → claims.Claim → trees.Tree → List parts.Part
    → Status → List (List ℕ) → Type 0
MergeSays names p claim tree ps status lines =
    MergedSays p claim tree ps status lines ⊎ StoppedSays p claim tree names ps status lines

-- the files of the parts are read and judged in order, and then the parts are put back
abbrev pub MergeWork : (List ℕ → Told) → List (List ℕ) → Problem → claims.Claim → trees.Tree
    → Status → List (List ℕ) → Type 0
MergeWork held names p claim tree status lines =
    FirstFault held names p status lines
    ⊎ ((ps : List parts.Part) × GiveParts held p names ps
    × MergeSays names p claim tree ps status lines)
