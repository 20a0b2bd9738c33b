use Rattle.std.proofs.Common.{subst, inl, inr}
use Rattle.command_files.specs.studio_rules.Ending.{Tells}
use Rattle.command_files.specs.studio_rules.Solve.{SolveWork, HeadedWork}
use Rattle.command_files.specs.studio_rules.declared.status.Status.TheVariants.{Memory}
use Rattle.command_files.proofs.Cited.{Ends-map, Tells-map, Tells-memory, only_in}
use Rattle.searches.specs.Found.{FoundSays}
use Rattle.searches.proofs.FoundTexts.{found_solves}
use Rattle.searches.specs.declared.solves_search.Solution.{Solution}
use Rattle.searches.specs.Solution.{IsSolution}
use Rattle.searches.proofs.solve.say_solved.Goals as goal

pub say_found-requires : goal.say_found-requires
say_found-requires g c = (
  c.args.effort.budget,
  subst (λ (s : Solution). IsSolution c.args.problem.now c.args.effort.budget s) c.in-Plain.is
      c.search_best.ensures,
)

pub returns-in-Plain : goal.returns-in-Plain
returns-in-Plain g c =
    let p = c.args.problem.now in
    Ends-map _ _ c.args.out.now _ _
    (Tells-map (FoundSays p c.in-Plain.found) (SolveWork c.args.effort.budget p)
    (λ s lines h. inl
    (found_solves c.accepted_is_optimal.ensures p c.is_valid.ensures.valid c.args.effort.budget
    c.in-Plain.found
    (subst (λ (t : Solution). IsSolution p c.args.effort.budget t) c.in-Plain.is
    c.search_best.ensures) s lines h))) c.say_found.ensures

pub say_headed-requires : goal.say_headed-requires
say_headed-requires g c =
    subst (λ (s : Solution). IsSolution c.args.problem.now c.args.effort.budget s)
    c.in-WithHead.is c.search_best.ensures

pub returns : goal.returns
returns g c =
    let p = c.args.problem.now in
    Ends-map _ _ c.args.out.now _ _
    (Tells-map (HeadedWork p) (SolveWork c.args.effort.budget p) (λ s lines h. inr h))
    c.say_headed.ensures

pub returns-in_default : goal.returns-in_default
returns-in_default g c =
    Ends-map _ _ c.args.out.now _ _
    (only_in (Tells (SolveWork c.args.effort.budget c.args.problem.now)) Memory _
    (Tells-memory (SolveWork c.args.effort.budget c.args.problem.now))) c.say_memory.ensures
