use Rattle.std.proofs.Common.{ℕ, List}
use Rattle.command_files.specs.studio_rules.Max.{MaxWork}
use Rattle.command_files.specs.studio_rules.Reading.{FileSays}
use Rattle.command_files.specs.studio_rules.Ending.{Tells}
use Rattle.command_files.specs.studio_rules.declared.status.Status.{Status}
use Rattle.command_files.proofs.Cited.{Ends-map, Ends-from, on_file-faults, on_file-work}
use Rattle.structure_commands.proofs.max.max.Goals as goal

pub returns-in-Ok-clause-ends : goal.returns-in-Ok-clause-ends
returns-in-Ok-clause-ends g c =
    let old = g.F.Shelf.state c.args.shelf.now in
    let new = g.F.Shelf.state c.problem_of.new.shelf in
    let Q : Status → List ℕ → Type 0 = FileSays MaxWork c.args.file.now old new in
    Ends-from (Tells (MaxWork c.in-Ok.problem)) Q c.args.out.now _ _ _ c.in-Ok.ensures.silent
    (on_file-work MaxWork old new c.args.file.now c.in-Ok.problem c.in-Ok.ensures.problem)
    c.say_maximal.ensures

pub returns-in-Err-clause-ends : goal.returns-in-Err-clause-ends
returns-in-Err-clause-ends g c =
    let old = g.F.Shelf.state c.args.shelf.now in
    let new = g.F.Shelf.state c.problem_of.new.shelf in
    let Q : Status → List ℕ → Type 0 = FileSays MaxWork c.args.file.now old new in
    Ends-map _ Q c.args.out.now _ _ (on_file-faults MaxWork old new c.args.file.now)
    c.in-Err.ensures.told
