use Rattle.std.proofs.Common.{ap, ℕ, List}
use Rattle.rank_text.specs.problem_rules.Problem.{Problem}
use Rattle.searches.specs.studio_rules.Alternates.{AlternatesWork}
use Rattle.searches.specs.studio_rules.Reading.{FileSays}
use Rattle.searches.specs.studio_rules.Ending.{Tells}
use Rattle.searches.specs.studio_rules.declared.status.Status.{Status}
use Rattle.searches.proofs.command_files.Cited.{Ends-map, Ends-from, on_file-faults, on_file-work}
use Rattle.rank_commands.proofs.alternates.alternatives.Goals as goal

pub returns-in-Ok-clause-ends : goal.returns-in-Ok-clause-ends
returns-in-Ok-clause-ends g c =
    let old = g.F.Shelf.state c.args.shelf.now in
    let new = g.F.Shelf.state c.problem_of.new.shelf in
    let work : Problem → Status → List (List ℕ) → Type 0 =
    AlternatesWork c.args.count c.args.effort.budget in
    let Q : Status → List ℕ → Type 0 = FileSays work c.args.file.now old new in
    Ends-from (Tells (work c.in-Ok.problem)) Q c.args.out.now _ _ _ c.in-Ok.ensures.silent
    (on_file-work work old new c.args.file.now c.in-Ok.problem c.in-Ok.ensures.problem)
    c.say_listed.ensures

pub returns-in-Err-clause-ends : goal.returns-in-Err-clause-ends
returns-in-Err-clause-ends g c =
    let old = g.F.Shelf.state c.args.shelf.now in
    let new = g.F.Shelf.state c.problem_of.new.shelf in
    let work : Problem → Status → List (List ℕ) → Type 0 =
    AlternatesWork c.args.count c.args.effort.budget in
    let Q : Status → List ℕ → Type 0 = FileSays work c.args.file.now old new in
    Ends-map _ Q c.args.out.now _ _ (on_file-faults work old new c.args.file.now)
    c.in-Err.ensures.told
