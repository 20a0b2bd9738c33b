use Rattle.std.proofs.Common.{◌≡◌, [], refl, inl, inr, ℕ, List}
use Rattle.tree_text.specs.text_rules.Canonical.{canonical_lines}
use Rattle.command_files.specs.plan_rules.Expanded.{expanded}
use Rattle.command_files.specs.studio_rules.Lines.{text_of}
use Rattle.command_files.specs.studio_rules.Plan.{OnPlan, PlanFileFault, PlanSays}
use Rattle.command_files.specs.studio_rules.Expand.{ExpandWork}
use Rattle.command_files.specs.studio_rules.Ending.{Says}
use Rattle.command_files.specs.studio_rules.declared.status.Status.{Status}
use Rattle.command_files.specs.studio_rules.declared.status.Status.TheVariants.{Done}
use Rattle.command_files.proofs.Cited.{Ends-map, Ends-from, only_or_memory_in, on_second-faults}
use Rattle.searches.proofs.expansion.say_expanded.Goals as goal

pub returns-in-Ok-clause-ends : goal.returns-in-Ok-clause-ends
returns-in-Ok-clause-ends g c =
    let old = g.F.Shelf.state c.args.shelf.now in
    let new = g.F.Shelf.state c.plan_of.new.shelf in
    let p = c.args.problem.now in
    let read = c.in-Ok.ensures.plan in
    let lines : List (List ℕ) = canonical_lines (expanded p c.in-Ok.plan) in
    let Q : Status → List ℕ → Type 0 =
    Says (OnPlan ExpandWork old.held c.args.plan.now p) (λ other. other ≡ c.args.plan.now) old
    new in
    Ends-from _ Q c.args.out.now _ _ _ c.in-Ok.ensures.silent
    (only_or_memory_in Q Done (text_of lines)
    (lines, (read.0, read.1, inr (c.in-Ok.plan, read.2, (refl, refl))), refl)
    ([], inl refl, refl))
    (c.say_made.ensures lines c.expanded_text.ensures)

pub returns-in-Err-clause-ends : goal.returns-in-Err-clause-ends
returns-in-Err-clause-ends g c =
    let old = g.F.Shelf.state c.args.shelf.now in
    let new = g.F.Shelf.state c.plan_of.new.shelf in
    let Q : Status → List ℕ → Type 0 =
    Says (OnPlan ExpandWork old.held c.args.plan.now c.args.problem.now)
    (λ other. other ≡ c.args.plan.now) old new in
    Ends-map _ Q c.args.out.now _ _
    (on_second-faults (PlanSays ExpandWork c.args.plan.now)
    (PlanFileFault c.args.plan.now c.args.problem.now) old new c.args.plan.now
    c.args.problem.now (λ file s lines h. inl h)) c.in-Err.ensures.told
