use Rattle.std.proofs.Common.{◌≡◌, ◌++◌, ◌∷◌, [], refl, inl, List, ℕ, codes}
use Rattle.studio_words.specs.studio_rules.Lines.{line}
use Rattle.studio_words.specs.studio_rules.Reading.{LongFile}
use Rattle.studio_words.specs.studio_rules.Ending.{Says}
use Rattle.studio_words.specs.studio_rules.declared.status.Status.{Status}
use Rattle.studio_words.specs.studio_rules.declared.status.Status.TheVariants.{ReadFault, Memory}
use Rattle.studio_words.specs.studio_rules.declared.status.Status.TheVariants.{TooLong}
use Rattle.command_files.proofs.Ending.{Ends-map, only_in, only_or_memory_in, one_line}
use Rattle.command_files.proofs.Files.{long_file}
use Rattle.command_files.proofs.file.bytes_of.Goals as goal

pub returns-in-Err-ReadFault-clause-told : goal.returns-in-Err-ReadFault-clause-told
returns-in-Err-ReadFault-clause-told g c =
    let old = g.F.Shelf.state c.args.shelf.now in
    let new = g.F.Shelf.state c.read_all.new.shelf in
    let name = c.args.name.now in
    let Q : Status → List ℕ → Type 0 =
    Says (LongFile old.held name c.args.limit) (λ other. other ≡ name) old new in
    Ends-map _ Q c.args.out.now _ _
    (only_or_memory_in Q ReadFault (line (codes "read fault " ++ name))
    (name, refl, (rw c.in-Err-ReadFault.field-0-is at c.in-Err-ReadFault.ensures.fault) refl, refl)
    ([], inl refl, refl))
    c.tell_with.ensures

pub returns-in-Err-TooLong-clause-told : goal.returns-in-Err-TooLong-clause-told
returns-in-Err-TooLong-clause-told g c =
    let old = g.F.Shelf.state c.args.shelf.now in
    let new = g.F.Shelf.state c.read_all.new.shelf in
    let name = c.args.name.now in
    let Q : Status → List ℕ → Type 0 =
    Says (LongFile old.held name c.args.limit) (λ other. other ≡ name) old new in
    let long =
    long_file (old.held name) c.args.limit
    ((rw c.in-Err-TooLong.field-0-is at c.in-Err-TooLong.ensures.too_long) refl) in
    Ends-map _ Q c.args.out.now _ _
    (only_or_memory_in Q TooLong (line (codes "too long " ++ name)) (
      (codes "too long " ++ name) ∷ [],
      (refl, (long.0, long.1, (long.2, refl))),
      one_line (codes "too long " ++ name),
    ) ([], inl refl, refl))
    c.tell_with-in-Err-TooLong.ensures

pub returns-in-Err-Memory-clause-told : goal.returns-in-Err-Memory-clause-told
returns-in-Err-Memory-clause-told g c =
    let old = g.F.Shelf.state c.args.shelf.now in
    let new = g.F.Shelf.state c.read_all.new.shelf in
    let name = c.args.name.now in
    let Q : Status → List ℕ → Type 0 =
    Says (LongFile old.held name c.args.limit) (λ other. other ≡ name) old new in
    Ends-map _ Q c.args.out.now _ _ (only_in Q Memory (line (codes "memory")) ([], inl refl, refl))
    c.say_memory.ensures
