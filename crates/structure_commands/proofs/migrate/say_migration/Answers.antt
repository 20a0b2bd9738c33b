use Rattle.std.proofs.Common.{◌≡◌, ◌++◌, ◌∷◌, ◌∙◌, [], IfOk, Some, false, refl, ap, subst, inl, inr}
use Rattle.std.proofs.Common.{codes, pos, List, ℕ}
use Rattle.text_lines.specs.problem_rules.Problem.{unit_at}
use Rattle.text_lines.specs.edit_rules.Edit.{Script}
use Rattle.text_lines.specs.edit_rules.Migration.{has_payout, out_of_range_at, migration}
use Rattle.text_lines.specs.edit_rules.Printed.{script_text}
use Rattle.command_files.specs.studio_rules.Lines.{line, text_of}
use Rattle.command_files.specs.studio_rules.Script.{printed_lines}
use Rattle.command_files.specs.studio_rules.Migrate.{MigrateWork, out_of_range_line}
use Rattle.command_files.specs.studio_rules.Ending.{Tells}
use Rattle.command_files.specs.studio_rules.declared.status.Status.{Status}
use Rattle.command_files.specs.studio_rules.declared.status.Status.TheVariants.{Done, NotMigrated}
use Rattle.command_files.specs.studio_rules.declared.status.Status.TheVariants.{Memory}
use Rattle.command_files.proofs.Cited.{Ends-map, only_in, only_or_memory_in, one_line}
use Rattle.structure_commands.proofs.migrate.say_migration.Goals as goal

pub returns-in-Ok : goal.returns-in-Ok
returns-in-Ok g c =
    let p = c.args.problem.now in
    let lines : List (List ℕ) = printed_lines (migration (pos c.args.years) p) in
    let Q : Status → List ℕ → Type 0 = Tells (MigrateWork c.args.years p) in
    Ends-map _ Q c.args.out.now _ _
    (only_or_memory_in Q Done (text_of lines)
    (lines, (c.in-Ok.ensures.once, c.in-Ok.ensures.in_range, refl), refl) ([], inl refl, refl))
    (c.say_made.ensures lines
    (subst
    (λ (s : Script). IfOk c.print_script.result (λ text. text.items ≡ script_text s.edits))
    c.in-Ok.ensures.script c.print_script.ensures))

pub returns-in-Err-HasPayout : goal.returns-in-Err-HasPayout
returns-in-Err-HasPayout g c =
    let p = c.args.problem.now in
    let Q : Status → List ℕ → Type 0 = Tells (MigrateWork c.args.years p) in
    Ends-map _ Q c.args.out.now _ _
    (only_in Q NotMigrated (line (codes "has payout")) (
      codes "has payout" ∷ [],
      inl ((rw c.in-Err-HasPayout.field-0-is at c.in-Err-HasPayout.ensures.fault), refl),
      one_line (codes "has payout"),
    )) c.tell.ensures

pub returns-in-Err-OutOfRange : goal.returns-in-Err-OutOfRange
returns-in-Err-OutOfRange g c =
    let p = c.args.problem.now in
    let fault : (has_payout p ≡ false)
    × (out_of_range_at (pos c.args.years) p ≡ Some c.in-Err-OutOfRange.unit) =
    (rw c.in-Err-OutOfRange.field-0-is at c.in-Err-OutOfRange.ensures.fault) in
    let told : List ℕ = out_of_range_line (unit_at p c.in-Err-OutOfRange.unit).name in
    let Q : Status → List ℕ → Type 0 = Tells (MigrateWork c.args.years p) in
    Ends-map _ Q c.args.out.now _ _
    (only_or_memory_in Q NotMigrated (line (codes "out of range " ++ c.unit_name-name.result.now)) (
      told ∷ [],
      inr (fault.0, (c.in-Err-OutOfRange.unit, fault.1, refl)),
      ap (λ (name : List ℕ). line (out_of_range_line name)) c.unit_name-name.ensures
          ∙ one_line told,
    )
    ([], inl refl, refl))
    c.tell_with.ensures

pub returns-in-Err-Memory : goal.returns-in-Err-Memory
returns-in-Err-Memory g c =
    let Q : Status → List ℕ → Type 0 = Tells (MigrateWork c.args.years c.args.problem.now) in
    Ends-map _ Q c.args.out.now _ _ (only_in Q Memory (line (codes "memory")) ([], inl refl, refl))
    c.say_memory.ensures
