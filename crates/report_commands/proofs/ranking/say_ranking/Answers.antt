use Rattle.std.proofs.Common.{◌≡◌, ◌∷◌, [], Ok, Err, refl, inl, inr, ℕ, List, codes}
use Rattle.rank_text.specs.rank_rules.Read.{read_text}
use Rattle.network_commands.specs.studio_rules.Lines.{line}
use Rattle.network_commands.specs.studio_rules.TreeFile.{tree_fault_line}
use Rattle.network_commands.specs.studio_rules.TextFile.{RankSays}
use Rattle.network_commands.specs.studio_rules.Ending.{Ends, Tells, Only, OrMemory}
use Rattle.network_commands.specs.studio_rules.declared.status.Status.{Status}
use Rattle.network_commands.specs.studio_rules.declared.status.Status.TheVariants.{BadTree, Memory}
use Rattle.network_commands.proofs.command_files.Cited.{Ends-map, Tells-map, only_in}
use Rattle.network_commands.proofs.command_files.Cited.{only_or_memory_in, one_line}
use Rattle.report_commands.specs.Works.{RankWork}
use Rattle.report_commands.proofs.ranking.say_ranking.Goals as goal

pub returns-in-Ok : goal.returns-in-Ok
returns-in-Ok g c name =
    let form = c.args.form in
    let p = c.args.problem.now in
    let file = c.args.bytes.now in
    let t = c.in-Ok.ranking in
    Ends-map (Tells (RankWork form p t)) (Tells (RankSays (RankWork form) name p file))
    c.args.out.now _ _
    (Tells-map (RankWork form p t) (RankSays (RankWork form) name p file)
    (λ s lines h. inr (t, (c.requires, c.in-Ok.ensures.read), h))) c.say_ranked.ensures

pub returns-in-Err-At : goal.returns-in-Err-At
returns-in-Err-At g c name =
    let p = c.args.problem.now in
    let Q : Status → List ℕ → Type 0 =
    Tells (RankSays (RankWork c.args.form) name p c.args.bytes.now) in
    let read : read_text p c.args.bytes.now ≡ Err (c.in-Err-At.line, c.in-Err-At.kind) =
    (rw c.in-Err-At.field-0-is at c.in-Err-At.ensures.fault) in
    let told : List ℕ = tree_fault_line c.in-Err-At.line c.in-Err-At.kind in
    let said : Ends (OrMemory (Only BadTree (line told))) c.args.out.now c.say_tree_fault.new.out
    c.say_tree_fault.result = c.say_tree_fault.ensures in
    Ends-map (OrMemory (Only BadTree (line told))) Q c.args.out.now c.say_tree_fault.new.out
    c.say_tree_fault.result
    (only_or_memory_in Q BadTree (line told) (
      told ∷ [],
      inl (c.requires, (c.in-Err-At.line, c.in-Err-At.kind, read, refl)),
      one_line told,
    ) ([], inl refl, refl))
    said

pub returns-in-Err-Memory : goal.returns-in-Err-Memory
returns-in-Err-Memory g c name =
    let Q : Status → List ℕ → Type 0 =
    Tells (RankSays (RankWork c.args.form) name c.args.problem.now c.args.bytes.now) in
    Ends-map _ Q c.args.out.now _ _ (only_in Q Memory (line (codes "memory")) ([], inl refl, refl))
    c.say_memory.ensures
