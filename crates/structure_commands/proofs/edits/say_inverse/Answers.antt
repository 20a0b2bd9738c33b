use Rattle.std.proofs.Common.{◌≡◌, IfOk, [], refl, ap, subst, inl, inr, ℕ, List}
use Rattle.text_lines.specs.edit_rules.Edit.{Script}
use Rattle.text_lines.specs.edit_rules.Script.{undoing}
use Rattle.text_lines.specs.edit_rules.Printed.{script_text}
use Rattle.command_files.specs.studio_rules.Lines.{text_of}
use Rattle.command_files.specs.studio_rules.Script.{OnScript, ScriptFault, ScriptSays, IsEdited}
use Rattle.command_files.specs.studio_rules.Script.{printed_lines}
use Rattle.command_files.specs.studio_rules.Edits.{UndoWork}
use Rattle.command_files.specs.studio_rules.Ending.{Says}
use Rattle.command_files.specs.studio_rules.declared.status.Status.{Status}
use Rattle.command_files.specs.studio_rules.declared.status.Status.TheVariants.{Done}
use Rattle.command_files.proofs.Cited.{Ends-map, Ends-from, only_or_memory_in, on_second-faults}
use Rattle.structure_commands.proofs.edits.say_inverse.Goals as goal

pub returns-in-Ok-clause-ends : goal.returns-in-Ok-clause-ends
returns-in-Ok-clause-ends g c =
    let old = g.F.Shelf.state c.args.shelf.now in
    let new = g.F.Shelf.state c.edited_of.new.shelf in
    let p = c.args.problem.now in
    let read = c.in-Ok.ensures.edited in
    let is : IsEdited p read.0 c.in-Ok.edited.0 c.in-Ok.edited.1 = read.2 in
    let lines : List (List ℕ) = printed_lines (undoing p is.script.edits) in
    let Q : Status → List ℕ → Type 0 =
    Says (OnScript UndoWork old.held c.args.script.now p) (λ other. other ≡ c.args.script.now)
    old new in
    Ends-from _ Q c.args.out.now _ _ _ c.in-Ok.ensures.silent
    (only_or_memory_in Q Done (text_of lines)
    (lines, (read.0, read.1, inr (is.script, is.gives, (refl, refl))), refl)
    ([], inl refl, refl))
    (c.say_made.ensures lines
    (subst
    (λ (s : Script). IfOk c.print_script.result (λ text. text.items ≡ script_text s.edits))
    is.back_is c.print_script.ensures))

pub returns-in-Err-clause-ends : goal.returns-in-Err-clause-ends
returns-in-Err-clause-ends g c =
    let old = g.F.Shelf.state c.args.shelf.now in
    let new = g.F.Shelf.state c.edited_of.new.shelf in
    let Q : Status → List ℕ → Type 0 =
    Says (OnScript UndoWork old.held c.args.script.now c.args.problem.now)
    (λ other. other ≡ c.args.script.now) old new in
    Ends-map _ Q c.args.out.now _ _
    (on_second-faults (ScriptSays UndoWork c.args.script.now)
    (ScriptFault c.args.script.now c.args.problem.now) old new c.args.script.now
    c.args.problem.now (λ file s lines h. inl h)) c.in-Err.ensures.told
