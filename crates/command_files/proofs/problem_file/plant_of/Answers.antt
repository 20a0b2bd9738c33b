use Rattle.std.proofs.Common.{◌≡◌, ◌∷◌, [], Err, refl, sym, ◌∙◌, inl, List, ℕ, codes, ap}
use Rattle.pns_text.specs.text_rules.Value.{read_text}
use Rattle.studio_words.specs.studio_rules.Lines.{line}
use Rattle.studio_words.specs.studio_rules.Reading.{FileFault, FileFaults, fault_line}
use Rattle.studio_words.specs.studio_rules.Ending.{Says}
use Rattle.studio_words.specs.studio_rules.declared.status.Status.{Status}
use Rattle.studio_words.specs.studio_rules.declared.status.Status.TheVariants.{BadProblem, Memory}
use Rattle.command_files.proofs.Ending.{Ends-map, Ends-from, only_in, only_or_memory_in, one_line}
use Rattle.command_files.proofs.Seconds.{long-faults}
use Rattle.command_files.proofs.problem_file.plant_of.Goals as goal

pub returns-in-Err-clause-told : goal.returns-in-Err-clause-told
returns-in-Err-clause-told g c =
    let old = g.F.Shelf.state c.args.shelf.now in
    let new = g.F.Shelf.state c.bytes_of.new.shelf in
    let name = c.args.name.now in
    let Q : Status → List ℕ → Type 0 =
    Says (FileFaults old.held name) (λ other. other ≡ name) old new in
    Ends-map _ Q c.args.out.now _ _
    (long-faults (FileFault name) old new name 4194304 (λ file lines h. h))
    c.in-Err.ensures.told

pub returns-in-Err-At-clause-told : goal.returns-in-Err-At-clause-told
returns-in-Err-At-clause-told g c =
    let old = g.F.Shelf.state c.args.shelf.now in
    let new = g.F.Shelf.state c.bytes_of.new.shelf in
    let name = c.args.name.now in
    let Q : Status → List ℕ → Type 0 =
    Says (FileFaults old.held name) (λ other. other ≡ name) old new in
    let told : read_text c.in-Ok.bytes.items ≡ Err (c.in-Err-At.line, c.in-Err-At.kind) =
    ap read_text (sym c.deref.ensures.value)
    ∙ (rw c.in-Err-At.field-0-is at c.in-Err-At.ensures.fault) in
    Ends-from _ Q c.args.out.now _ _ _ c.in-Ok.ensures.silent
    (only_or_memory_in Q BadProblem (line (fault_line c.in-Err-At.line c.in-Err-At.kind)) (
      fault_line c.in-Err-At.line c.in-Err-At.kind ∷ [],
      (
        c.in-Ok.bytes.items,
        c.in-Ok.ensures.whole,
        (c.in-Ok.ensures.within, (c.in-Err-At.line, c.in-Err-At.kind, told, refl)),
      ),
      one_line (fault_line c.in-Err-At.line c.in-Err-At.kind),
    ) ([], inl refl, refl))
    c.say_fault.ensures

pub returns-clause-told : goal.returns-clause-told
returns-clause-told g c =
    let old = g.F.Shelf.state c.args.shelf.now in
    let new = g.F.Shelf.state c.bytes_of.new.shelf in
    let name = c.args.name.now in
    let Q : Status → List ℕ → Type 0 =
    Says (FileFaults old.held name) (λ other. other ≡ name) old new in
    Ends-from _ Q c.args.out.now _ _ _ c.in-Ok.ensures.silent
    (only_in Q Memory (line (codes "memory")) ([], inl refl, refl)) c.say_memory.ensures
