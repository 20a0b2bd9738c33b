use Rattle.std.proofs.Common.{◌∷◌, ◌∙◌, [], refl, inl, ℕ, List, codes}
use Rattle.rank_text.specs.branch_tree.View.{claim_of}
use Rattle.rank_text.specs.tree_reading.Said.{said_by}
use Rattle.rank_text.specs.tree_rules.Claim.{ClaimFails}
use Rattle.json_text.specs.report_rules.HeadedVerdict.{is_plain}
use Rattle.network_commands.specs.studio_rules.Lines.{line}
use Rattle.network_commands.specs.studio_rules.RefusalWords.{claim_line}
use Rattle.network_commands.specs.studio_rules.Json.{JsonWork}
use Rattle.network_commands.specs.studio_rules.Ending.{Tells}
use Rattle.network_commands.specs.studio_rules.declared.status.Status.{Status}
use Rattle.network_commands.specs.studio_rules.declared.status.Status.TheVariants.{Done, BadClaim}
use Rattle.network_commands.specs.studio_rules.declared.status.Status.TheVariants.{Memory}
use Rattle.network_commands.proofs.command_files.Cited.{Ends-map, only_in, only_or_memory_in}
use Rattle.network_commands.proofs.command_files.Cited.{one_line}
use Rattle.report_commands.proofs.json_call.say_judged.Goals as goal

pub returns-in-Ok : goal.returns-in-Ok
returns-in-Ok g c =
    let Q : Status → List ℕ → Type 0 =
    Tells (JsonWork c.args.site.now (said_by c.args.text.now)) in
    let told = c.in-Ok.ensures.says in
    Ends-map _ Q c.args.out.now _ _
    (only_in Q Done c.deref.result.now (told.0, told.1, c.deref.ensures.value ∙ told.2))
    c.say_text.ensures

pub returns-in-Err-Claim : goal.returns-in-Err-Claim
returns-in-Err-Claim g c =
    let p = c.args.site.now in
    let claim = claim_of c.args.text.now.claim in
    let Q : Status → List ℕ → Type 0 = Tells (JsonWork p (said_by c.args.text.now)) in
    let fails : ClaimFails (is_plain c.args.text.now.head) p claim c.in-Err-Claim.why =
    (rw c.in-Err-Claim.field-0-is at c.in-Err-Claim.ensures.unjudged) in
    let told : List ℕ = claim_line c.in-Err-Claim.why in
    Ends-map _ Q c.args.out.now _ _
    (only_or_memory_in Q BadClaim (line told)
    (told ∷ [], (c.in-Err-Claim.why, fails, refl), one_line told) ([], inl refl, refl))
    c.say_refused.ensures

pub returns-in-Err-Memory : goal.returns-in-Err-Memory
returns-in-Err-Memory g c =
    let Q : Status → List ℕ → Type 0 =
    Tells (JsonWork c.args.site.now (said_by c.args.text.now)) in
    Ends-map _ Q c.args.out.now _ _ (only_in Q Memory (line (codes "memory")) ([], inl refl, refl))
    c.say_memory.ensures
