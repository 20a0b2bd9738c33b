-- A claim whose tree is accepted is best.
use Rattle.std.proofs.Common.{◌≡◌, false, true, Bool, ℕ, List, inl, inr, subst}
use Rattle.text_lines.specs.problem_rules.Problem.{Problem}
use Rattle.text_lines.specs.problem_rules.Validity.{IsValid}
use Rattle.cert_check.specs.tree_rules.Claim.{Claim, network, infeasible, unknown}
use Rattle.cert_check.specs.tree_rules.Accepted.{Tree}
use Rattle.cert_check.specs.tree_rules.Head.{HeadLine}
use Rattle.cert_check.specs.tree_rules.Headed.{head_node, IsAcceptedBy}
use Rattle.cert_check.specs.tree_laws.HeadLaws.{AcceptedByIsOptimal, AcceptedByHasFlows}
use Rattle.command_files.specs.studio_rules.Reading.{TwoFilesSay}
use Rattle.command_files.specs.studio_rules.HeadedFile.{OnHeaded}
use Rattle.text_lines.specs.text_rules.State.{ShelfState, OutputsState}
use Rattle.command_files.specs.studio_rules.Ending.{Ends}
use Rattle.command_files.specs.studio_rules.declared.status.Status.{Status}
use Rattle.command_files.specs.studio_rules.declared.status.Status.TheVariants.{Done}
use Rattle.command_files.specs.studio_rules.Check.{CheckWork}
use Rattle.command_files.specs.studio_rules.Best.{IsBest, FilesClaimBest, AcceptedIsBest}

module _ (optimal : AcceptedByIsOptimal) (feasible : AcceptedByHasFlows) where
  is_best : (p : Problem) → IsValid p → (claim : Claim) (head : List HeadLine)
      (tree : Tree) → IsAcceptedBy p claim head tree → IsBest p claim
  is_best p valid (network w) head tree accepted =
      let has = feasible p (head_node p head) w head tree accepted in
      record {
        structure = has.structure;
        allowed = has.allowed;
        flows = has.flows;
        cost_is = has.cost_is;
        least =
            λ s structure allowed z d flows. optimal p valid
            (network w) head tree accepted s structure
            allowed z d flows;
      }
  is_best p valid infeasible head tree accepted =
      λ s structure allowed z d flows. optimal p valid infeasible head tree accepted s structure
      allowed
      z d flows
  is_best p valid unknown head tree accepted = let e : false ≡ true = accepted.claimed in cc

  pub accepted_is_best : AcceptedIsBest
  accepted_is_best held file tree lines (bytes, there, inl fault) = absurd fault
  accepted_is_best held file tree lines (bytes, there, inr (p, given, (text, told, inl fault))) =
      absurd fault
  accepted_is_best held file tree lines
      (bytes, there, inr (p, given, (text, told, inr (certificate, gives, work)))) =
      record {
        problem_text = bytes;
        problem_held = there;
        problem = p;
        gives_problem = given;
        valid = given.valid;
        tree_text = text;
        tree_held = told;
        certificate = certificate;
        gives_tree = gives;
        best = is_best p given.valid certificate.claim certificate.head certificate.tree work.0;
      }

-- what is printed with status 0 is such an answer
pub done_ends : AcceptedIsBest
    → (old new : ShelfState) (file tree : List ℕ) (before after : OutputsState) (s : Status)
    → Ends (TwoFilesSay (OnHeaded CheckWork) file tree old new) before after s → s ≡ Done
    → FilesClaimBest old.held file tree
done_ends law old new file tree before after s e done =
    let said =
    subst
    (λ (t : Status). Ends (TwoFilesSay (OnHeaded CheckWork) file tree old new) before after t)
    done e in
    law old.held file tree said.1.0 said.1.1
