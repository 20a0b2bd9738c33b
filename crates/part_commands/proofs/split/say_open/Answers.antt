use Rattle.std.proofs.Common.{◌≡◌, subst, sym, ◌++◌, ◌∷◌, ◌∙◌, [], true, refl, ap, inl, inr, ℕ}
use Rattle.std.proofs.Common.{List, codes}
use Rattle.network_commands.specs.branch_tree.View.{claim_of}
use Rattle.network_commands.specs.tree_rules.Claim.{ClaimPasses, ClaimFails}
use Rattle.network_commands.specs.tree_rules.Accepted.{first_node, NodeIsFault}
use Rattle.network_commands.specs.pns_rules.Shape.{shape_of}
use Rattle.network_commands.specs.tree_text_rules.OpenLeaves.{open_leaves}
use Rattle.network_commands.specs.cert_check.declared.open_leaf.OpenLeaf.{OpenLeaf}
use Rattle.network_commands.specs.cert_check.OpenLeaves.{leaves_at}
use Rattle.network_commands.specs.studio_rules.Lines.{line}
use Rattle.network_commands.specs.studio_rules.Split.{SplitWork, LeavesSay, split_lines}
use Rattle.network_commands.specs.studio_rules.RefusalWords.{claim_line, node_line}
use Rattle.network_commands.specs.studio_rules.Ending.{Tells}
use Rattle.network_commands.specs.studio_rules.declared.status.Status.{Status}
use Rattle.network_commands.specs.studio_rules.declared.status.Status.TheVariants.{BadClaim, Memory}
use Rattle.network_commands.proofs.command_files.Cited.{Ends-map, Tells-map, only_in}
use Rattle.network_commands.proofs.command_files.Cited.{only_or_memory_in, one_line}
use Rattle.part_commands.proofs.split.say_open.Goals as goal

pub returns-in-Err-Claim : goal.returns-in-Err-Claim
returns-in-Err-Claim g c =
    let Q : Status → List ℕ → Type 0 =
    Tells (SplitWork c.args.site.now (claim_of c.args.claim.now) c.args.tree.now) in
    let p = c.args.site.now in
    let claim = claim_of c.args.claim.now in
    let fails : ClaimFails true p claim c.in-Err-Claim.why =
    (rw c.in-Err-Claim.field-0-is at c.in-Err-Claim.ensures.refused) in
    let told : List ℕ = claim_line c.in-Err-Claim.why in
    Ends-map _ Q c.args.out.now _ _
    (only_or_memory_in Q BadClaim (line (codes "refused claim " ++ c.why_word.result.now)) (
      told ∷ [],
      inl (c.in-Err-Claim.why, fails, refl),
      ap (λ (word : List ℕ). line (codes "refused claim " ++ word)) c.why_word.ensures
          ∙ one_line told,
    )
    ([], inl refl, refl))
    c.tell_with.ensures

pub returns-in-Err-Node : goal.returns-in-Err-Node
returns-in-Err-Node g c =
    let Q : Status → List ℕ → Type 0 =
    Tells (SplitWork c.args.site.now (claim_of c.args.claim.now) c.args.tree.now) in
    let p = c.args.site.now in
    let claim = claim_of c.args.claim.now in
    let refuses : ClaimPasses true p claim
    × NodeIsFault true p first_node claim c.args.tree.now c.in-Err-Node.node c.in-Err-Node.why =
    (rw c.in-Err-Node.field-0-is at c.in-Err-Node.ensures.refused) in
    let told : List ℕ = node_line c.in-Err-Node.node c.in-Err-Node.why in
    Ends-map _ Q c.args.out.now _ _
    (only_or_memory_in Q BadClaim (line told) (
      told ∷ [],
      inr (refuses.0, (c.in-Err-Node.node, c.in-Err-Node.why, refuses.1, refl)),
      one_line told,
    )
    ([], inl refl, refl))
    c.tell_node.ensures

pub returns-in-Ok : goal.returns-in-Ok
returns-in-Ok g c =
    let p = c.args.site.now in
    let claim = claim_of c.args.claim.now in
    let tree = c.args.tree.now in
    let told : leaves_at c.deref.result.now ≡ open_leaves (shape_of p) (first_node ∷ []) tree 0 =
    ap (λ (ls : List OpenLeaf). leaves_at ls) c.deref.ensures.value ∙ c.in-Ok.ensures.leaves in
    Ends-map _ _ c.args.out.now _ _
    (Tells-map (LeavesSay (leaves_at c.deref.result.now)) (SplitWork p claim tree)
    (λ s lines h. subst (λ (t : Status). SplitWork p claim tree t lines) (sym h.0)
    (c.in-Ok.ensures.partial, h.1 ∙ ap split_lines told)))
    c.say_leaves.ensures

pub returns-in-Err-Memory : goal.returns-in-Err-Memory
returns-in-Err-Memory g c =
    let Q : Status → List ℕ → Type 0 =
    Tells (SplitWork c.args.site.now (claim_of c.args.claim.now) c.args.tree.now) in
    Ends-map _ Q c.args.out.now _ _ (only_in Q Memory (line (codes "memory")) ([], inl refl, refl))
    c.say_memory.ensures
