use Rattle.std.proofs.Common.{◌≡◌, ◌∷◌, [], Ok, Err, refl, sym, ◌∙◌, inl, List, ℕ, codes, ap}
use Rattle.rank_text.specs.rank_rules.Read.{read_text}
use Rattle.searches.specs.studio_rules.Lines.{line}
use Rattle.searches.specs.studio_rules.TreeFile.{tree_fault_line}
use Rattle.searches.specs.studio_rules.Rankcheck.{RankFault, RankFaults}
use Rattle.searches.specs.studio_rules.Ending.{Says}
use Rattle.searches.specs.studio_rules.declared.status.Status.{Status}
use Rattle.searches.specs.studio_rules.declared.status.Status.TheVariants.{BadTree, Memory}
use Rattle.searches.proofs.command_files.Cited.{Ends-map, Ends-from, only_in, only_or_memory_in}
use Rattle.searches.proofs.command_files.Cited.{one_line}
use Rattle.searches.proofs.command_files.Cited.{long-faults}
use Rattle.rank_commands.proofs.rank_file.rank_of.Goals as goal

pub returns-in-Err-clause-told : goal.returns-in-Err-clause-told
returns-in-Err-clause-told g c =
    let old = g.F.Shelf.state c.args.shelf.now in
    let new = g.F.Shelf.state c.bytes_of.new.shelf in
    let name = c.args.name.now in
    let p = c.args.problem.now in
    let Q : Status → List ℕ → Type 0 =
    Says (RankFaults old.held name p) (λ other. other ≡ name) old new in
    Ends-map _ Q c.args.out.now _ _
    (long-faults (RankFault name p) old new name 268435456 (λ file lines h. h))
    c.in-Err.ensures.told

pub returns-in-Err-At-clause-told : goal.returns-in-Err-At-clause-told
returns-in-Err-At-clause-told g c =
    let old = g.F.Shelf.state c.args.shelf.now in
    let new = g.F.Shelf.state c.bytes_of.new.shelf in
    let name = c.args.name.now in
    let p = c.args.problem.now in
    let Q : Status → List ℕ → Type 0 =
    Says (RankFaults old.held name p) (λ other. other ≡ name) old new in
    let told : read_text p c.in-Ok.bytes.items ≡ Err (c.in-Err-At.line, c.in-Err-At.kind) =
    ap (read_text p) (sym c.deref.ensures.value)
    ∙ (rw c.in-Err-At.field-0-is at c.in-Err-At.ensures.fault) in
    Ends-from _ Q c.args.out.now _ _ _ c.in-Ok.ensures.silent
    (only_or_memory_in Q BadTree (line (tree_fault_line c.in-Err-At.line c.in-Err-At.kind)) (
      tree_fault_line c.in-Err-At.line c.in-Err-At.kind ∷ [],
      (
        c.in-Ok.bytes.items,
        c.in-Ok.ensures.whole,
        (c.in-Ok.ensures.within, (c.in-Err-At.line, c.in-Err-At.kind, told, refl)),
      ),
      one_line (tree_fault_line c.in-Err-At.line c.in-Err-At.kind),
    ) ([], inl refl, refl))
    c.say_tree_fault.ensures

pub returns-clause-told : goal.returns-clause-told
returns-clause-told g c =
    let old = g.F.Shelf.state c.args.shelf.now in
    let new = g.F.Shelf.state c.bytes_of.new.shelf in
    let name = c.args.name.now in
    let p = c.args.problem.now in
    let Q : Status → List ℕ → Type 0 =
    Says (RankFaults old.held name p) (λ other. other ≡ name) old new in
    Ends-from _ Q c.args.out.now _ _ _ c.in-Ok.ensures.silent
    (only_in Q Memory (line (codes "memory")) ([], inl refl, refl)) c.say_memory.ensures

pub returns-in-Ok-read_rank-clause-ranking : goal.returns-in-Ok-read_rank-clause-ranking
returns-in-Ok-read_rank-clause-ranking g c =
    let p = c.args.problem.now in
    let read : read_text p c.in-Ok.bytes.items ≡ Ok c.in-Ok-read_rank.text =
    ap (read_text p) (sym c.deref.ensures.value) ∙ c.in-Ok-read_rank.ensures.read in
    (c.in-Ok.bytes.items, c.in-Ok.ensures.whole, (c.in-Ok.ensures.within, read))
