-- What a branch tree with a head proves of its claim, from the node at which nothing is decided. An
-- open leaf fails.
use Rattle.std.specs.Prelude.{Bool, true, false, List, [], ◌∷◌}
use Rattle.rank_rules.specs.problem_rules.Problem.{Problem}
use Rattle.rank_rules.specs.tree_rules.Claim.{Claim, ClaimPasses}
use Rattle.rank_rules.specs.tree_rules.Accepted.{Tree}
use Rattle.rank_rules.specs.tree_rules.Head.{HeadLine}
use Rattle.rank_rules.specs.tree_rules.Headed.{head_node, HeadPasses, IsAcceptedBy, LineIsFault}
use Rattle.rank_rules.specs.tree_rules.Headed.{NodeIsFaultBy}
use Rattle.report_rules.specs.declared.headed_verdict.HeadedVerdict.{HeadedVerdict}
use Rattle.report_rules.specs.declared.headed_verdict.HeadedVerdict.TheVariants.{Proved}
use Rattle.report_rules.specs.declared.headed_verdict.HeadedVerdict.TheVariants.{LineFails}
use Rattle.report_rules.specs.declared.headed_verdict.HeadedVerdict.TheVariants.{NodeFails}

-- A head without lines is that of a tree without one. Its leaves may be open, and nothing may be
-- claimed.
abbrev pub is_plain : List HeadLine → Bool
is_plain [] = true
is_plain (line ∷ head) = false

-- Either the head and the tree are accepted for the claim. Or they are not, the claim passes, and
-- line i of the head is the first that fails. Or they are not, the claim and the head pass, and
-- node k is the first that fails.
abbrev pub IsHeadedVerdict : Problem → Claim → List HeadLine → Tree → HeadedVerdict → Type 0
IsHeadedVerdict p claim head tree Proved = IsAcceptedBy p claim head tree
IsHeadedVerdict p claim head tree (LineFails i why) =
    (IsAcceptedBy p claim head tree → ⊥)
    × (ClaimPasses false p claim × LineIsFault p claim head i why)
IsHeadedVerdict p claim head tree (NodeFails k why) =
    (IsAcceptedBy p claim head tree → ⊥)
    × (ClaimPasses false p claim × (HeadPasses p claim head
    × NodeIsFaultBy false p (head_node p head) claim head tree k why))
