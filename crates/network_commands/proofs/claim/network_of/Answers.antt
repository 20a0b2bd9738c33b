use Rattle.std.proofs.Common.{refl, sym, subst, ℕ, List}
use Rattle.verdicts.specs.branch_tree.View.{claim_of}
use Rattle.verdicts.specs.branch_tree.declared.claim.Claim.{Claim}
use Rattle.verdicts.specs.tree_rules.declared.why.Why.TheVariants.{Unknown}
use Rattle.command_files.specs.studio_rules.RefusalWords.{claim_line}
use Rattle.command_files.specs.studio_rules.Lines.{line}
use Rattle.command_files.specs.studio_rules.Ending.{Tells, Only, OrMemory}
use Rattle.command_files.specs.studio_rules.declared.status.Status.{Status}
use Rattle.command_files.specs.studio_rules.declared.status.Status.TheVariants.{BadClaim}
use Rattle.command_files.proofs.Cited.{Ends-map}
use Rattle.command_files.specs.studio_rules.Network.{IsRefusedFor, ClaimRefusal}
use Rattle.network_commands.proofs.Refusals.{refused_for, refusal_told}
use Rattle.network_commands.proofs.claim.network_of.Goals as goal

pub returns-in-Infeasible-clause-told : goal.returns-in-Infeasible-clause-told
returns-in-Infeasible-clause-told g c =
    let p = c.args.site.now in
    let Q : Status → List ℕ → Type 0 = Tells (ClaimRefusal p (claim_of c.args.claim)) in
    Ends-map (OrMemory (Only BadClaim (line (claim_line Unknown)))) Q c.args.out.now _ _
    (refusal_told p (claim_of c.args.claim) Unknown
    (subst (λ (k : Claim). IsRefusedFor p (claim_of k) Unknown) (sym c.in-Infeasible.is) refl))
    c.say_none.ensures

pub returns-in-Err-clause-told : goal.returns-in-Err-clause-told
returns-in-Err-clause-told g c =
    let p = c.args.site.now in
    let claim = claim_of c.args.claim in
    let Q : Status → List ℕ → Type 0 = Tells (ClaimRefusal p claim) in
    Ends-map (OrMemory (Only BadClaim (line (claim_line c.in-Err.why)))) Q c.args.out.now _ _
    (refusal_told p claim c.in-Err.why
    (refused_for p claim c.in-Err.why ((c.in-Err.ensures.fails c.in-Err.why).0 refl)))
    c.say_refused-in-Err.ensures
