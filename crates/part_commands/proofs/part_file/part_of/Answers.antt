use Rattle.std.proofs.Common.{◌≡◌, ◌∷◌, [], Ok, Err, refl, sym, ap, subst, inl, List, ℕ, codes}
use Rattle.network_commands.specs.tree_text_rules.Part as parts
use Rattle.network_commands.specs.tree_text_rules.PartRead.{PartReads}
use Rattle.network_commands.specs.studio_rules.Lines.{line}
use Rattle.network_commands.specs.studio_rules.PartFile.{PartFault, PartFaults, part_fault_line}
use Rattle.network_commands.specs.studio_rules.Ending.{Says}
use Rattle.network_commands.specs.studio_rules.declared.status.Status.{Status}
use Rattle.network_commands.specs.studio_rules.declared.status.Status.TheVariants.{BadTree, Memory}
use Rattle.network_commands.proofs.command_files.Cited.{Ends-map, Ends-from, only_in}
use Rattle.network_commands.proofs.command_files.Cited.{only_or_memory_in, one_line}
use Rattle.network_commands.proofs.command_files.Cited.{long-faults}
use Rattle.part_commands.proofs.part_file.part_of.Goals as goal

pub returns-in-Err-clause-told : goal.returns-in-Err-clause-told
returns-in-Err-clause-told g c =
    let old = g.F.Shelf.state c.args.shelf.now in
    let new = g.F.Shelf.state c.bytes_of.new.shelf in
    let name = c.args.name.now in
    let p = c.args.problem.now in
    let Q : Status → List ℕ → Type 0 =
    Says (PartFaults c.args.several old.held name p) (λ other. other ≡ name) old new in
    Ends-map _ Q c.args.out.now _ _
    (long-faults (PartFault c.args.several name p) old new name 268435456 (λ file lines h. h))
    c.in-Err.ensures.told

pub returns-in-Err-At-clause-told : goal.returns-in-Err-At-clause-told
returns-in-Err-At-clause-told g c =
    let old = g.F.Shelf.state c.args.shelf.now in
    let new = g.F.Shelf.state c.bytes_of.new.shelf in
    let name = c.args.name.now in
    let p = c.args.problem.now in
    let several = c.args.several in
    let Q : Status → List ℕ → Type 0 =
    Says (PartFaults several old.held name p) (λ other. other ≡ name) old new in
    let told : PartReads p c.in-Ok.bytes.items (Err (c.in-Err-At.line, c.in-Err-At.kind)) =
    subst (λ (bytes : List ℕ). PartReads p bytes (Err (c.in-Err-At.line, c.in-Err-At.kind)))
    c.deref.ensures.value (rw c.in-Err-At.field-0-is at c.in-Err-At.ensures.fault) in
    Ends-from _ Q c.args.out.now _ _ _ c.in-Ok.ensures.silent
    (only_or_memory_in Q BadTree
    (line (part_fault_line several name c.in-Err-At.line c.in-Err-At.kind)) (
      part_fault_line several name c.in-Err-At.line c.in-Err-At.kind ∷ [],
      (
        c.in-Ok.bytes.items,
        c.in-Ok.ensures.whole,
        (c.in-Ok.ensures.within, (c.in-Err-At.line, c.in-Err-At.kind, told, refl)),
      ),
      one_line (part_fault_line several name c.in-Err-At.line c.in-Err-At.kind),
    ) ([], inl refl, refl))
    (c.tell_made.ensures (part_fault_line several name c.in-Err-At.line c.in-Err-At.kind)
    c.part_fault_line-first.ensures)

pub returns-clause-told : goal.returns-clause-told
returns-clause-told g c =
    let old = g.F.Shelf.state c.args.shelf.now in
    let new = g.F.Shelf.state c.bytes_of.new.shelf in
    let name = c.args.name.now in
    let p = c.args.problem.now in
    let Q : Status → List ℕ → Type 0 =
    Says (PartFaults c.args.several old.held name p) (λ other. other ≡ name) old new in
    Ends-from _ Q c.args.out.now _ _ _ c.in-Ok.ensures.silent
    (only_in Q Memory (line (codes "memory")) ([], inl refl, refl)) c.say_memory.ensures

pub returns-in-Ok-read_part-clause-part : goal.returns-in-Ok-read_part-clause-part
returns-in-Ok-read_part-clause-part g c =
    let p = c.args.problem.now in (
      c.in-Ok.bytes.items,
      c.in-Ok.ensures.whole,
      (
        c.in-Ok.ensures.within,
        subst (λ (bytes : List ℕ). PartReads p bytes (Ok c.in-Ok-read_part.part))
            c.deref.ensures.value c.in-Ok-read_part.ensures.read,
      ),
    )
