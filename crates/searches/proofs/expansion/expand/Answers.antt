use Rattle.std.proofs.Common.{◌≡◌, ℕ, List}
use Rattle.command_files.specs.studio_rules.Reading.{TwoFilesSay}
use Rattle.command_files.specs.studio_rules.Plan.{OnPlan, PlanSays}
use Rattle.command_files.specs.studio_rules.Expand.{ExpandWork}
use Rattle.command_files.specs.studio_rules.Ending.{Says}
use Rattle.command_files.specs.studio_rules.declared.status.Status.{Status}
use Rattle.command_files.proofs.Cited.{Ends-map, Ends-from, on_both-faults, on_both-work}
use Rattle.command_files.proofs.Cited.{keeps_through}
use Rattle.searches.proofs.expansion.expand.Goals as goal

pub returns-in-Ok-clause-ends : goal.returns-in-Ok-clause-ends
returns-in-Ok-clause-ends g c =
    let old = g.F.Shelf.state c.args.shelf.now in
    let mid = g.F.Shelf.state c.problem_of.new.shelf in
    let new = g.F.Shelf.state c.say_expanded.new.shelf in
    let file = c.args.file.now in
    let plan = c.args.plan.now in
    let P : Status → List ℕ → Type 0 =
    Says (OnPlan ExpandWork mid.held plan c.in-Ok.problem) (λ other. other ≡ plan) mid new in
    let Q : Status → List ℕ → Type 0 = TwoFilesSay (OnPlan ExpandWork) file plan old new in
    Ends-from P Q c.args.out.now _ _ _ c.in-Ok.ensures.silent
    (on_both-work (PlanSays ExpandWork plan) file plan old mid new c.in-Ok.problem
    c.in-Ok.ensures.problem (c.problem_of.ensures.keeps.held plan)
    c.problem_of.ensures.keeps.later) c.say_expanded.ensures.ends

pub returns-in-Err-clause-ends : goal.returns-in-Err-clause-ends
returns-in-Err-clause-ends g c =
    let old = g.F.Shelf.state c.args.shelf.now in
    let new = g.F.Shelf.state c.problem_of.new.shelf in
    let file = c.args.file.now in
    let plan = c.args.plan.now in
    let Q : Status → List ℕ → Type 0 = TwoFilesSay (OnPlan ExpandWork) file plan old new in
    Ends-map _ Q c.args.out.now _ _ (on_both-faults (PlanSays ExpandWork plan) file plan old new)
    c.in-Err.ensures.told

pub returns-in-Ok-clause-keeps : goal.returns-in-Ok-clause-keeps
returns-in-Ok-clause-keeps g c =
    keeps_through _ _ _ c.in-Ok.ensures.keeps c.say_expanded.ensures.keeps
