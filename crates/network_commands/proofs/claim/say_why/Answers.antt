use Rattle.std.proofs.Common.{◌++◌, ap, ◌∙◌, inl, inr, ℕ, List, codes}
use Rattle.command_files.specs.studio_rules.RefusalWords.{claim_line}
use Rattle.command_files.specs.studio_rules.Lines.{line}
use Rattle.command_files.specs.studio_rules.Ending.{Only, OrMemory}
use Rattle.command_files.specs.studio_rules.declared.status.Status.{Status}
use Rattle.command_files.specs.studio_rules.declared.status.Status.TheVariants.{BadClaim}
use Rattle.command_files.proofs.Cited.{Ends-map}
use Rattle.network_commands.proofs.claim.say_why.Goals as goal

pub returns : goal.returns
returns g c =
    let Q : Status → List ℕ → Type 0 = OrMemory (Only BadClaim (line (claim_line c.args.why))) in
    Ends-map (OrMemory (Only BadClaim (line (codes "refused claim " ++ c.why_word.result.now)))) Q
    c.args.out.now _ _
    (λ s t h. elim h [
      | inl q
          ↦ inl (
            q.0,
            q.1
                ∙ ap (λ (word : List ℕ). line (codes "refused claim " ++ word)) c.why_word.ensures,
          )
      | inr q
          ↦ inr q
    ])
    c.tell_with.ensures
