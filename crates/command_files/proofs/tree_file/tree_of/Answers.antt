use Rattle.std.proofs.Common.{◌≡◌, ◌∷◌, [], Ok, Err, refl, sym, ◌∙◌, inl, List, ℕ, codes, ap}
use Rattle.tree_reading.specs.branch_tree.View.{claim_of, tail_of}
use Rattle.tree_reading.specs.tree_text_rules.Read.{read_text}
use Rattle.studio_words.specs.studio_rules.Lines.{line}
use Rattle.studio_words.specs.studio_rules.TreeFile.{TreeFault, TreeFaults, tree_fault_line}
use Rattle.studio_words.specs.studio_rules.Ending.{Says}
use Rattle.studio_words.specs.studio_rules.declared.status.Status.{Status}
use Rattle.studio_words.specs.studio_rules.declared.status.Status.TheVariants.{BadTree, Memory}
use Rattle.command_files.proofs.Ending.{Ends-map, Ends-from, only_in, only_or_memory_in, one_line}
use Rattle.command_files.proofs.Seconds.{long-faults}
use Rattle.command_files.proofs.tree_file.tree_of.Goals as goal

pub returns-in-Err-clause-told : goal.returns-in-Err-clause-told
returns-in-Err-clause-told g c =
    let old = g.F.Shelf.state c.args.shelf.now in
    let new = g.F.Shelf.state c.bytes_of.new.shelf in
    let name = c.args.name.now in
    let p = c.args.problem.now in
    let Q : Status → List ℕ → Type 0 =
    Says (TreeFaults old.held name p) (λ other. other ≡ name) old new in
    Ends-map _ Q c.args.out.now _ _
    (long-faults (TreeFault name p) old new name 268435456 (λ file lines h. h))
    c.in-Err.ensures.told

pub returns-in-Err-At-clause-told : goal.returns-in-Err-At-clause-told
returns-in-Err-At-clause-told g c =
    let old = g.F.Shelf.state c.args.shelf.now in
    let new = g.F.Shelf.state c.bytes_of.new.shelf in
    let name = c.args.name.now in
    let p = c.args.problem.now in
    let Q : Status → List ℕ → Type 0 =
    Says (TreeFaults old.held name p) (λ other. other ≡ name) old new in
    let told : read_text p c.in-Ok.bytes.items ≡ Err (c.in-Err-At.line, c.in-Err-At.kind) =
    ap (read_text p) (sym c.deref.ensures.value)
    ∙ (rw c.in-Err-At.field-0-is at c.in-Err-At.ensures.fault) in
    Ends-from _ Q c.args.out.now _ _ _ c.in-Ok.ensures.silent
    (only_or_memory_in Q BadTree (line (tree_fault_line c.in-Err-At.line c.in-Err-At.kind)) (
      tree_fault_line c.in-Err-At.line c.in-Err-At.kind ∷ [],
      (
        c.in-Ok.bytes.items,
        c.in-Ok.ensures.whole,
        (c.in-Ok.ensures.within, (c.in-Err-At.line, c.in-Err-At.kind, told, refl)),
      ),
      one_line (tree_fault_line c.in-Err-At.line c.in-Err-At.kind),
    ) ([], inl refl, refl))
    c.say_tree_fault.ensures

pub returns-clause-told : goal.returns-clause-told
returns-clause-told g c =
    let old = g.F.Shelf.state c.args.shelf.now in
    let new = g.F.Shelf.state c.bytes_of.new.shelf in
    let name = c.args.name.now in
    let p = c.args.problem.now in
    let Q : Status → List ℕ → Type 0 =
    Says (TreeFaults old.held name p) (λ other. other ≡ name) old new in
    Ends-from _ Q c.args.out.now _ _ _ c.in-Ok.ensures.silent
    (only_in Q Memory (line (codes "memory")) ([], inl refl, refl)) c.say_memory.ensures

pub returns-in-Ok-read_tree-clause-tree : goal.returns-in-Ok-read_tree-clause-tree
returns-in-Ok-read_tree-clause-tree g c =
    let p = c.args.problem.now in
    let tail = tail_of c.in-Ok-read_tree.field-0-2 in
    let read : read_text p c.in-Ok.bytes.items
    ≡ Ok
    (record {
      claim = claim_of c.in-Ok-read_tree.claim;
      tree = c.in-Ok-read_tree.tree;
      tail =
          tail;
    }) =
    ap (read_text p) (sym c.deref.ensures.value) ∙ c.in-Ok-read_tree.ensures.read in
    (c.in-Ok.bytes.items, c.in-Ok.ensures.whole, (c.in-Ok.ensures.within, (tail, read)))
