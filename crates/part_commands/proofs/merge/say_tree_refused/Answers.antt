use Rattle.std.proofs.Common.{◌≡◌, ◌∷◌, ◌++◌, [], refl, ap, subst, sym, ◌∙◌, inl, ℕ, List, codes}
use Rattle.network_commands.specs.studio_rules.RefusalWords.{claim_line, node_line}
use Rattle.network_commands.specs.studio_rules.Merge.{TreeRefused}
use Rattle.network_commands.specs.studio_rules.Lines.{line}
use Rattle.network_commands.specs.studio_rules.Ending.{Tells}
use Rattle.network_commands.specs.studio_rules.declared.status.Status.{Status}
use Rattle.network_commands.specs.studio_rules.declared.status.Status.TheVariants.{BadClaim, NoLeaf}
use Rattle.network_commands.specs.studio_rules.declared.status.Status.TheVariants.{Memory}
use Rattle.network_commands.proofs.command_files.Cited.{Ends-map, only_in, only_or_memory_in}
use Rattle.network_commands.proofs.command_files.Cited.{one_line}
use Rattle.part_commands.proofs.merge.say_tree_refused.Goals as goal

pub returns-in-Claim : goal.returns-in-Claim
returns-in-Claim g c =
    let Q : Status → List ℕ → Type 0 = Tells (TreeRefused c.args.refusal) in
    let told : List ℕ = claim_line c.in-Claim.why in
    Ends-map _ Q c.args.out.now _ _
    (only_or_memory_in Q BadClaim (line (codes "refused claim " ++ c.why_word.result.now)) (
      told ∷ [],
      subst (λ x. TreeRefused x BadClaim (told ∷ [])) (sym c.in-Claim.is) (refl, refl),
      ap (λ (word : List ℕ). line (codes "refused claim " ++ word)) c.why_word.ensures
          ∙ one_line told,
    ) ([], inl refl, refl))
    c.tell_with.ensures

pub returns-in-Node : goal.returns-in-Node
returns-in-Node g c =
    let Q : Status → List ℕ → Type 0 = Tells (TreeRefused c.args.refusal) in
    let told : List ℕ = node_line c.in-Node.node c.in-Node.why in
    Ends-map _ Q c.args.out.now _ _
    (only_or_memory_in Q BadClaim (line told) (
      told ∷ [],
      subst (λ x. TreeRefused x BadClaim (told ∷ [])) (sym c.in-Node.is) (refl, refl),
      one_line told,
    ) ([], inl refl, refl))
    c.tell_node.ensures

pub returns-in-Memory : goal.returns-in-Memory
returns-in-Memory g c =
    let Q : Status → List ℕ → Type 0 = Tells (TreeRefused c.args.refusal) in
    Ends-map _ Q c.args.out.now _ _ (only_in Q Memory (line (codes "memory")) ([], inl refl, refl))
    c.say_memory.ensures
