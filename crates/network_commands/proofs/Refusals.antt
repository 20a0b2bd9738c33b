-- A claim that fails is refused for the cause.
use Rattle.std.proofs.Common.{◌∷◌, [], false, refl, inl, inr, ℕ, List}
use Rattle.verdicts.specs.problem_rules.Problem.{Problem}
use Rattle.verdicts.specs.tree_rules.declared.why.Why.{Why}
use Rattle.verdicts.specs.tree_rules.Claim.{Claim, network, infeasible, unknown, ClaimFails}
use Rattle.command_files.specs.studio_rules.RefusalWords.{claim_line}
use Rattle.command_files.specs.studio_rules.Lines.{line}
use Rattle.command_files.specs.studio_rules.Ending.{Tells, Only, OrMemory}
use Rattle.command_files.specs.studio_rules.declared.status.Status.{Status}
use Rattle.command_files.specs.studio_rules.declared.status.Status.TheVariants.{BadClaim}
use Rattle.command_files.proofs.Cited.{only_or_memory_in, one_line}
use Rattle.command_files.specs.studio_rules.Network.{IsRefusedFor, ClaimRefusal}

pub refused_for : (p : Problem) (claim : Claim) (why : Why) → ClaimFails false p claim why
    → IsRefusedFor p claim why
refused_for p (network w) why h = h
refused_for p infeasible why h = absurd h
refused_for p unknown why (inl h) = h.0
refused_for p unknown why (inr h) = absurd h.1

-- the line that says so is printed, or the word `memory`
pub refusal_told : (p : Problem) (claim : Claim) (why : Why) → IsRefusedFor p claim why
    → (s : Status) (t : List ℕ) → OrMemory (Only BadClaim (line (claim_line why))) s t
    → Tells (ClaimRefusal p claim) s t
refusal_told p claim why h =
    only_or_memory_in (Tells (ClaimRefusal p claim)) BadClaim (line (claim_line why))
    (claim_line why ∷ [], (refl, (why, h, refl)), one_line (claim_line why))
    ([], inl refl, refl)
