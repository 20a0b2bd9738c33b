-- The claim of a tree file is judged by its lines, which all commands on the network of a claim
-- share. Neither nodes nor tail are judged.
use Rattle.std.specs.Prelude.{◌≡◌, ◌⊎◌, ℕ, false, List, [], ◌∷◌}
use Rattle.report_rules.specs.problem_rules.Problem.{Problem}
use Rattle.report_rules.specs.tree_rules.declared.why.Why.{Why}
use Rattle.report_rules.specs.tree_rules.declared.why.Why.TheVariants.{Unknown}
use Rattle.report_rules.specs.tree_rules.Claim.{Network, Claim, network, infeasible, unknown}
use Rattle.report_rules.specs.tree_rules.Claim.{IsFeasible}
use Rattle.report_rules.specs.tree_rules.Claim.{ClaimFails}
use Rattle.report_rules.specs.tree_rules.Accepted.{Tree}
use Rattle.studio_rules.specs.RefusalWords.{claim_line}
use Rattle.studio_rules.specs.declared.status.Status.{Status}
use Rattle.studio_rules.specs.declared.status.Status.TheVariants.{BadClaim}

-- a claim without a network is refused as unknown, any other for the first of its lines that fails
abbrev pub IsRefusedFor : Problem → Claim → Why → Type 0
IsRefusedFor p (network w) why = ClaimFails false p (network w) why
IsRefusedFor p infeasible why = why ≡ Unknown
IsRefusedFor p unknown why = why ≡ Unknown

abbrev pub ClaimRefusal : Problem → Claim → Status → List (List ℕ) → Type 0
ClaimRefusal p claim status lines = (status ≡ BadClaim)
    × ((why : Why) × IsRefusedFor p claim why × (lines ≡ claim_line why ∷ []))

-- the claim is a network, and each of its lines is true
abbrev pub ClaimsNetwork : Problem → Claim → Network → Type 0
ClaimsNetwork p claim w = (claim ≡ network w) × IsFeasible p w

-- The status and lines of the work on a problem and the network of a claim: those of a claim that
-- is refused, else those of the work.
abbrev pub OnNetwork : (Problem → Network → Status → List (List ℕ) → Type 0) → Problem → Claim
    → Tree → Status → List (List ℕ) → Type 0
OnNetwork work p claim tree status lines =
    ClaimRefusal p claim status lines
    ⊎ ((w : Network) × ClaimsNetwork p claim w × work p w status lines)
