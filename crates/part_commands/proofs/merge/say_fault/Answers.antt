use Rattle.std.proofs.Common.{◌≡◌, ◌∷◌, [], refl, subst, sym, inl, ℕ, List, codes}
use Rattle.network_commands.specs.tree_text_rules.declared.merge_fault.MergeFault.{MergeFault}
use Rattle.network_commands.specs.studio_rules.Merge.{TreeRefused, PartRefused, FaultSays}
use Rattle.network_commands.specs.studio_rules.Merge.{no_leaf_line}
use Rattle.network_commands.specs.studio_rules.Lines.{line}
use Rattle.network_commands.specs.studio_rules.Ending.{Tells}
use Rattle.network_commands.specs.studio_rules.declared.status.Status.{Status}
use Rattle.network_commands.specs.studio_rules.declared.status.Status.TheVariants.{NoLeaf, Memory}
use Rattle.network_commands.proofs.command_files.Cited.{Ends-map, Tells-map, only_in}
use Rattle.network_commands.proofs.command_files.Cited.{only_or_memory_in, one_line}
use Rattle.part_commands.proofs.merge.say_fault.Goals as goal

pub returns-in-Tree : goal.returns-in-Tree
returns-in-Tree g c =
    let says = FaultSays c.args.several c.args.name.now in
    Ends-map _ _ c.args.out.now _ _
    (Tells-map (TreeRefused c.in-Tree.refusal) (says c.args.fault)
    (λ s lines h. subst (λ (f : MergeFault). says f s lines) (sym c.in-Tree.is) h))
    c.say_tree_refused.ensures

pub returns-in-Part : goal.returns-in-Part
returns-in-Part g c =
    let says = FaultSays c.args.several c.args.name.now in
    Ends-map _ _ c.args.out.now _ _
    (Tells-map (PartRefused c.args.several c.args.name.now c.in-Part.refusal)
    (says c.args.fault)
    (λ s lines h. subst (λ (f : MergeFault). says f s lines) (sym c.in-Part.is) h))
    c.say_part_refused.ensures

pub returns-in-NoLeaf : goal.returns-in-NoLeaf
returns-in-NoLeaf g c =
    let Q : Status → List ℕ → Type 0 =
    Tells (FaultSays c.args.several c.args.name.now c.args.fault) in
    let told : List ℕ = no_leaf_line c.args.several c.args.name.now in
    Ends-map _ Q c.args.out.now _ _
    (only_or_memory_in Q NoLeaf (line told) (
      told ∷ [],
      subst (λ (f : MergeFault). FaultSays c.args.several c.args.name.now f NoLeaf (told ∷ []))
          (sym c.in-NoLeaf.is) (refl, refl),
      one_line told,
    ) ([], inl refl, refl))
    (c.tell_made.ensures told c.no_leaf_line-made.ensures)

pub returns-in-Memory : goal.returns-in-Memory
returns-in-Memory g c =
    let Q : Status → List ℕ → Type 0 =
    Tells (FaultSays c.args.several c.args.name.now c.args.fault) in
    Ends-map _ Q c.args.out.now _ _ (only_in Q Memory (line (codes "memory")) ([], inl refl, refl))
    c.say_memory.ensures
