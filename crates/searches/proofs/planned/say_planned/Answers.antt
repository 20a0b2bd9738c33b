use Rattle.std.proofs.Common.{◌≡◌, inl, inr, ℕ, List}
use Rattle.tree_text.specs.problem_rules.Problem.{Problem}
use Rattle.command_files.specs.plan_rules.Plan.{Plan}
use Rattle.command_files.specs.studio_rules.Plan.{OnPlan, PlanFileFault, PlanSays}
use Rattle.command_files.specs.studio_rules.Periods.{PeriodsWork}
use Rattle.command_files.specs.studio_rules.Ending.{Says, Tells}
use Rattle.command_files.specs.studio_rules.declared.status.Status.{Status}
use Rattle.command_files.proofs.Cited.{Ends-map, Ends-from, Says-told, on_second-faults}
use Rattle.searches.proofs.planned.say_planned.Goals as goal

pub returns-in-Ok-clause-ends : goal.returns-in-Ok-clause-ends
returns-in-Ok-clause-ends g c =
    let old = g.F.Shelf.state c.args.shelf.now in
    let new = g.F.Shelf.state c.plan_of.new.shelf in
    let p = c.args.problem.now in
    let read = c.in-Ok.ensures.plan in
    let work : Problem → Plan → Status → List (List ℕ) → Type 0 =
    PeriodsWork c.args.effort.budget in
    let Q : Status → List ℕ → Type 0 =
    Says (OnPlan work old.held c.args.plan.now p) (λ other. other ≡ c.args.plan.now) old new in
    Ends-from (Tells (work p c.in-Ok.plan)) Q c.args.out.now _ _ _ c.in-Ok.ensures.silent
    (Says-told (work p c.in-Ok.plan) (OnPlan work old.held c.args.plan.now p)
    (λ other. other ≡ c.args.plan.now) old new
    (λ s lines h. (read.0, read.1, inr (c.in-Ok.plan, read.2, h))))
    c.say_least.ensures

pub returns-in-Err-clause-ends : goal.returns-in-Err-clause-ends
returns-in-Err-clause-ends g c =
    let old = g.F.Shelf.state c.args.shelf.now in
    let new = g.F.Shelf.state c.plan_of.new.shelf in
    let work : Problem → Plan → Status → List (List ℕ) → Type 0 =
    PeriodsWork c.args.effort.budget in
    let Q : Status → List ℕ → Type 0 =
    Says (OnPlan work old.held c.args.plan.now c.args.problem.now)
    (λ other. other ≡ c.args.plan.now) old new in
    Ends-map _ Q c.args.out.now _ _
    (on_second-faults (PlanSays work c.args.plan.now)
    (PlanFileFault c.args.plan.now c.args.problem.now) old new c.args.plan.now
    c.args.problem.now (λ file s lines h. inl h)) c.in-Err.ensures.told
