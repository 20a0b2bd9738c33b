-- `check FILE TREE`: whether a branch tree and its head, which may have no lines, prove its claim
-- from the node at which nothing is decided. Or else the first line of the claim, the first line of
-- the head, or the first node, that fails, with its cause. The tail does not matter.
use Rattle.std.specs.Prelude.{◌≡◌, ◌⊎◌, ℕ, false, List, [], ◌∷◌, codes}
use Rattle.report_rules.specs.problem_rules.Problem.{Problem}
use Rattle.report_rules.specs.tree_rules.declared.why.Why.{Why}
use Rattle.report_rules.specs.tree_rules.Claim.{Claim, ClaimPasses, ClaimFails}
use Rattle.report_rules.specs.tree_rules.Accepted.{Tree}
use Rattle.report_rules.specs.tree_rules.declared.line_why.LineWhy.{LineWhy}
use Rattle.report_rules.specs.tree_rules.Head.{HeadLine}
use Rattle.report_rules.specs.tree_rules.Headed.{head_node, HeadPasses, IsAcceptedBy, LineIsFault}
use Rattle.report_rules.specs.tree_rules.Headed.{NodeIsFaultBy}
use Rattle.report_rules.specs.tree_text_rules.Read.{HeadedCertificate}
use Rattle.studio_rules.specs.RefusalWords.{claim_line, head_line, node_line}
use Rattle.studio_rules.specs.declared.status.Status.{Status}
use Rattle.studio_rules.specs.declared.status.Status.TheVariants.{Done, Refused}

-- the claim is judged first, then the lines of the head in order, then the nodes in preorder
abbrev pub IsRefused : Problem → Claim → List HeadLine → Tree → List (List ℕ) → Type 0
IsRefused p claim head tree lines =
    ((why : Why) × ClaimFails false p claim why × (lines ≡ claim_line why ∷ []))
    ⊎ (ClaimPasses false p claim
    × (((number : ℕ) × (why : LineWhy) × LineIsFault p claim head number why
    × (lines ≡ head_line number why ∷ []))
    ⊎ (HeadPasses p claim head
    × ((node : ℕ) × (why : Why)
    × NodeIsFaultBy false p (head_node p head) claim head tree node why
    × (lines ≡ node_line node why ∷ [])))))

abbrev pub CheckWork : Problem → HeadedCertificate → Status → List (List ℕ) → Type 0
CheckWork p text Done lines =
    IsAcceptedBy p text.claim text.head text.tree × (lines ≡ codes "accepted" ∷ [])
CheckWork p text Refused lines = IsRefused p text.claim text.head text.tree lines
CheckWork p text status lines = ⊥
