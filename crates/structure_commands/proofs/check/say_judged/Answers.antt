use Rattle.std.proofs.Common.{◌++◌, ◌∷◌, ◌∙◌, [], false, refl, ap, inl, inr, ℕ, List, codes}
use Rattle.cert_check.specs.branch_tree.View.{claim_of}
use Rattle.command_files.specs.tree_reading.Said.{said_by}
use Rattle.cert_check.specs.tree_rules.Claim.{ClaimPasses, ClaimFails}
use Rattle.cert_check.specs.tree_rules.Headed.{head_node, HeadPasses, LineIsFault, NodeIsFaultBy}
use Rattle.command_files.specs.studio_rules.Lines.{line}
use Rattle.command_files.specs.studio_rules.RefusalWords.{claim_line, head_line, node_line}
use Rattle.command_files.specs.studio_rules.Check.{CheckWork}
use Rattle.command_files.specs.studio_rules.Ending.{Tells}
use Rattle.command_files.specs.studio_rules.declared.status.Status.{Status}
use Rattle.command_files.specs.studio_rules.declared.status.Status.TheVariants.{Done, Refused}
use Rattle.command_files.specs.studio_rules.declared.status.Status.TheVariants.{Memory}
use Rattle.command_files.proofs.Cited.{Ends-map, only_in, only_or_memory_in, one_line}
use Rattle.structure_commands.proofs.check.say_judged.Goals as goal

pub returns-in-Err-Claim : goal.returns-in-Err-Claim
returns-in-Err-Claim g c =
    let Q : Status → List ℕ → Type 0 =
    Tells (CheckWork c.args.site.now (said_by c.args.text.now)) in
    let p = c.args.site.now in
    let claim = claim_of c.args.text.now.claim in
    let fails : ClaimFails false p claim c.in-Err-Claim.why =
    (rw c.in-Err-Claim.field-0-is at c.in-Err-Claim.ensures.refused) in
    let told : List ℕ = claim_line c.in-Err-Claim.why in
    Ends-map _ Q c.args.out.now _ _
    (only_or_memory_in Q Refused (line (codes "refused claim " ++ c.why_word.result.now)) (
      told ∷ [],
      inl (c.in-Err-Claim.why, fails, refl),
      ap (λ (word : List ℕ). line (codes "refused claim " ++ word)) c.why_word.ensures
          ∙ one_line told,
    )
    ([], inl refl, refl))
    c.say_of.ensures

pub returns-in-Err-Node : goal.returns-in-Err-Node
returns-in-Err-Node g c =
    let Q : Status → List ℕ → Type 0 =
    Tells (CheckWork c.args.site.now (said_by c.args.text.now)) in
    let p = c.args.site.now in
    let claim = claim_of c.args.text.now.claim in
    let head = c.args.text.now.head in
    let refuses : ClaimPasses false p claim × HeadPasses p claim head
    × NodeIsFaultBy false p (head_node p head) claim head c.args.text.now.tree c.in-Err-Node.node
    c.in-Err-Node.why = (rw c.in-Err-Node.field-0-is at c.in-Err-Node.ensures.refused) in
    let told : List ℕ = node_line c.in-Err-Node.node c.in-Err-Node.why in
    Ends-map _ Q c.args.out.now _ _
    (only_or_memory_in Q Refused (line told) (
      told ∷ [],
      inr (
        refuses.0,
        inr (refuses.1, (c.in-Err-Node.node, c.in-Err-Node.why, refuses.2, refl)),
      ),
      one_line told,
    )
    ([], inl refl, refl))
    c.say_node.ensures

pub returns-in-Err-Line : goal.returns-in-Err-Line
returns-in-Err-Line g c =
    let Q : Status → List ℕ → Type 0 =
    Tells (CheckWork c.args.site.now (said_by c.args.text.now)) in
    let p = c.args.site.now in
    let claim = claim_of c.args.text.now.claim in
    let refuses : ClaimPasses false p claim
    × LineIsFault p claim c.args.text.now.head c.in-Err-Line.line c.in-Err-Line.why =
    (rw c.in-Err-Line.field-0-is at c.in-Err-Line.ensures.refused) in
    let told : List ℕ = head_line c.in-Err-Line.line c.in-Err-Line.why in
    Ends-map _ Q c.args.out.now _ _
    (only_or_memory_in Q Refused (line told) (
      told ∷ [],
      inr (refuses.0, inl (c.in-Err-Line.line, c.in-Err-Line.why, refuses.1, refl)),
      one_line told,
    )
    ([], inl refl, refl))
    c.say_head.ensures

pub returns-in-Ok : goal.returns-in-Ok
returns-in-Ok g c =
    let Q : Status → List ℕ → Type 0 =
    Tells (CheckWork c.args.site.now (said_by c.args.text.now)) in
    Ends-map _ Q c.args.out.now _ _
    (only_in Q Done (line (codes "accepted"))
    (codes "accepted" ∷ [], (c.in-Ok.ensures.accepted, refl), one_line (codes "accepted")))
    c.say.ensures

pub returns-in-Err-Memory : goal.returns-in-Err-Memory
returns-in-Err-Memory g c =
    let Q : Status → List ℕ → Type 0 =
    Tells (CheckWork c.args.site.now (said_by c.args.text.now)) in
    Ends-map _ Q c.args.out.now _ _ (only_in Q Memory (line (codes "memory")) ([], inl refl, refl))
    c.say_memory.ensures
