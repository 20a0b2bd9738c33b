use Rattle.std.proofs.Common.{◌≡◌, sym, subst, ℕ, List}
use Rattle.network_commands.specs.studio_rules.Ending.{Says, Tells}
use Rattle.network_commands.specs.studio_rules.declared.status.Status.{Status}
use Rattle.network_commands.proofs.command_files.Cited.{Ends-map, Ends-from, Says-told, long-faults}
use Rattle.report_commands.specs.Works.{FormSays, OnForm}
use Rattle.report_commands.proofs.Works.{of_long}
use Rattle.report_commands.proofs.call.say_file.Goals as goal

pub returns-in-Ok-clause-ends : goal.returns-in-Ok-clause-ends
returns-in-Ok-clause-ends g c =
    let old = g.F.Shelf.state c.args.shelf.now in
    let new = g.F.Shelf.state c.bytes_of.new.shelf in
    let form = c.args.wanted.now.form in
    let name = c.args.wanted.now.name.now in
    let p = c.args.problem.now in
    let file = c.in-Ok.bytes.items in
    let E : List ℕ → Status → List (List ℕ) → Type 0 = FormSays form name p in
    let O : Status → List (List ℕ) → Type 0 = OnForm form old.held name p in
    let Q : Status → List ℕ → Type 0 = Says O (λ other. other ≡ name) old new in
    Ends-from (Tells (E c.deref.result.now)) Q c.args.out.now _ _ _ c.in-Ok.ensures.silent
    (Says-told (E c.deref.result.now) O (λ other. other ≡ name) old new
    (λ s lines h. (
      file,
      c.in-Ok.ensures.whole,
      subst (λ (b : List ℕ). E b s lines) c.deref.ensures.value h,
    )))
    (c.say_any.ensures name)

pub returns-in-Err-clause-ends : goal.returns-in-Err-clause-ends
returns-in-Err-clause-ends g c =
    let old = g.F.Shelf.state c.args.shelf.now in
    let new = g.F.Shelf.state c.bytes_of.new.shelf in
    let form = c.args.wanted.now.form in
    let name = c.args.wanted.now.name.now in
    let p = c.args.problem.now in
    let Q : Status → List ℕ → Type 0 =
    Says (OnForm form old.held name p) (λ other. other ≡ name) old new in
    Ends-map _ Q c.args.out.now _ _
    (long-faults (FormSays form name p) old new name 268435456
    (λ file lines h. of_long name p file form lines h))
    c.in-Err.ensures.told
