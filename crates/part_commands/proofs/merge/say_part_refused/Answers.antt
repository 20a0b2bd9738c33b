use Rattle.std.proofs.Common.{◌≡◌, ◌∷◌, ◌++◌, [], refl, ap, subst, sym, ◌∙◌, inl, ℕ, List, codes}
use Rattle.network_commands.specs.studio_rules.Merge.{PartRefused, part_claim_line, part_node_line}
use Rattle.network_commands.specs.studio_rules.Lines.{line}
use Rattle.network_commands.specs.studio_rules.Ending.{Tells}
use Rattle.network_commands.specs.studio_rules.declared.status.Status.{Status}
use Rattle.network_commands.specs.studio_rules.declared.status.Status.TheVariants.{BadClaim, NoLeaf}
use Rattle.network_commands.specs.studio_rules.declared.status.Status.TheVariants.{Memory}
use Rattle.network_commands.proofs.command_files.Cited.{Ends-map, only_in, only_or_memory_in}
use Rattle.network_commands.proofs.command_files.Cited.{one_line}
use Rattle.part_commands.proofs.merge.say_part_refused.Goals as goal

pub returns-in-Claim : goal.returns-in-Claim
returns-in-Claim g c =
    let Q : Status → List ℕ → Type 0 =
    Tells (PartRefused c.args.several c.args.name.now c.args.refusal) in
    let told : List ℕ = part_claim_line c.args.several c.args.name.now c.in-Claim.why in
    Ends-map _ Q c.args.out.now _ _
    (only_or_memory_in Q BadClaim (line told) (
      told ∷ [],
      subst (λ x. PartRefused c.args.several c.args.name.now x BadClaim (told ∷ []))
          (sym c.in-Claim.is) (refl, refl),
      one_line told,
    ) ([], inl refl, refl))
    (c.tell_made.ensures told c.part_claim_line-made.ensures)

pub returns-in-Node : goal.returns-in-Node
returns-in-Node g c =
    let Q : Status → List ℕ → Type 0 =
    Tells (PartRefused c.args.several c.args.name.now c.args.refusal) in
    let told : List ℕ =
    part_node_line c.args.several c.args.name.now c.in-Node.node c.in-Node.why in
    Ends-map _ Q c.args.out.now _ _
    (only_or_memory_in Q BadClaim (line told) (
      told ∷ [],
      subst (λ x. PartRefused c.args.several c.args.name.now x BadClaim (told ∷ []))
          (sym c.in-Node.is) (refl, refl),
      one_line told,
    ) ([], inl refl, refl))
    (c.tell_made-in-Node.ensures told c.part_node_line-made.ensures)

pub returns-in-Memory : goal.returns-in-Memory
returns-in-Memory g c =
    let Q : Status → List ℕ → Type 0 =
    Tells (PartRefused c.args.several c.args.name.now c.args.refusal) in
    Ends-map _ Q c.args.out.now _ _ (only_in Q Memory (line (codes "memory")) ([], inl refl, refl))
    c.say_memory.ensures
