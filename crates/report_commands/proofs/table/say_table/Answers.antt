use Rattle.std.proofs.Common.{◌≡◌, ◌∷◌, [], Ok, Err, refl, inl, subst, ℕ, List, codes}
use Rattle.std.specs.Prelude.{IfOk}
use Rattle.json_text.specs.report_rules.declared.row.Row.{Row}
use Rattle.json_text.specs.report_rules.Object.{table_lines}
use Rattle.json_text.specs.report_rules.RangeTable.{read_table}
use Rattle.network_commands.specs.studio_rules.Lines.{line, text_of}
use Rattle.network_commands.specs.studio_rules.RangesJson.{TableSays}
use Rattle.network_commands.specs.studio_rules.TreeFile.{tree_fault_line}
use Rattle.network_commands.specs.studio_rules.Ending.{Ends, Tells, Only, OrMemory}
use Rattle.network_commands.specs.studio_rules.declared.status.Status.{Status}
use Rattle.network_commands.specs.studio_rules.declared.status.Status.TheVariants.{Done, BadTree}
use Rattle.network_commands.specs.studio_rules.declared.status.Status.TheVariants.{Memory}
use Rattle.network_commands.proofs.command_files.Cited.{Ends-map, only_in, only_or_memory_in}
use Rattle.network_commands.proofs.command_files.Cited.{one_line}
use Rattle.report_commands.proofs.table.say_table.Goals as goal

pub returns-in-Ok : goal.returns-in-Ok
returns-in-Ok g c name =
    let p = c.args.problem.now in
    let Q : Status → List ℕ → Type 0 = Tells (TableSays name p c.args.bytes.now) in
    let lines : List (List ℕ) = table_lines p c.in-Ok.rows.items in
    Ends-map _ Q c.args.out.now _ _
    (only_or_memory_in Q Done (text_of lines)
    (lines, (c.requires, (c.in-Ok.rows.items, c.in-Ok.ensures.read, refl)), refl)
    ([], inl refl, refl))
    (c.say_made.ensures lines
    (subst
    (λ (rows : List Row). IfOk c.table_json.result
    (λ bytes. bytes.items ≡ text_of (table_lines p rows))) c.deref.ensures.value
    c.table_json.ensures))

pub returns-in-Err-At : goal.returns-in-Err-At
returns-in-Err-At g c name =
    let p = c.args.problem.now in
    let Q : Status → List ℕ → Type 0 = Tells (TableSays name p c.args.bytes.now) in
    let read : read_table p c.args.bytes.now ≡ Err (c.in-Err-At.line, c.in-Err-At.kind) =
    (rw c.in-Err-At.field-0-is at c.in-Err-At.ensures.fault) in
    let told : List ℕ = tree_fault_line c.in-Err-At.line c.in-Err-At.kind in
    let said : Ends (OrMemory (Only BadTree (line told))) c.args.out.now c.say_tree_fault.new.out
    c.say_tree_fault.result = c.say_tree_fault.ensures in
    Ends-map (OrMemory (Only BadTree (line told))) Q c.args.out.now c.say_tree_fault.new.out
    c.say_tree_fault.result
    (only_or_memory_in Q BadTree (line told) (
      told ∷ [],
      (c.requires, (c.in-Err-At.line, c.in-Err-At.kind, read, refl)),
      one_line told,
    ) ([], inl refl, refl))
    said

pub returns-in-Err-Memory : goal.returns-in-Err-Memory
returns-in-Err-Memory g c name =
    let Q : Status → List ℕ → Type 0 =
    Tells (TableSays name c.args.problem.now c.args.bytes.now) in
    Ends-map _ Q c.args.out.now _ _ (only_in Q Memory (line (codes "memory")) ([], inl refl, refl))
    c.say_memory.ensures
