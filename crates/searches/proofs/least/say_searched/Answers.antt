use Rattle.std.proofs.Common.{ℕ, List, [], ◌∷◌, refl, codes, subst}
use Rattle.command_files.specs.plan_rules.Plan.{Plan}
use Rattle.headed_search.specs.abb_search.declared.outcome.Found.{Found}
use Rattle.headed_search.specs.abb_search.Found.{IsFound}
use Rattle.tree_text.specs.tree_rules.Accepted.{first_node}
use Rattle.command_files.specs.plan_rules.Folded.{folded}
use Rattle.command_files.specs.studio_rules.Lines.{text_of}
use Rattle.command_files.specs.studio_rules.Ending.{Tells}
use Rattle.command_files.specs.studio_rules.declared.status.Status.TheVariants.{Done, Memory}
use Rattle.command_files.proofs.Cited.{Ends-map, Tells-map, Tells-memory, only_in}
use Rattle.command_files.proofs.Cited.{only_or_memory_in}
use Rattle.searches.specs.Found.{FoundSays}
use Rattle.command_files.specs.studio_rules.DesignText.{design_lines}
use Rattle.command_files.specs.studio_rules.Periods.{PeriodsWork}
use Rattle.searches.proofs.Searched.{feasible_there, least_text, solved_there}
use Rattle.searches.proofs.Searched.{none_text, stopped_text}
use Rattle.searches.proofs.least.say_searched.Goals as goal

pub returns-in_default : goal.returns-in_default
returns-in_default g c =
    Ends-map _ _ c.args.out.now _ _
    (only_in (Tells (PeriodsWork c.args.effort.budget c.args.problem.now c.args.plan.now))
    Memory _
    (Tells-memory (PeriodsWork c.args.effort.budget c.args.problem.now c.args.plan.now)))
    c.say_memory.ensures

pub network_text-requires-clause-feasible : goal.network_text-requires-clause-feasible
network_text-requires-clause-feasible g c =
    feasible_there c.args.problem.now c.args.plan.now c.in-Solved.network
    (solved_there c.accepted_is_optimal.ensures c.args.effort.budget c.args.problem.now
    c.args.plan.now c.args.whole.now c.requires.whole c.is_valid-2.ensures.valid
    c.in-Solved.network c.in-Solved.tree
    (subst (λ (f : Found). IsFound c.args.whole.now first_node c.args.effort.budget f)
    c.in-Solved.is c.search_all.ensures))

pub returns-in-Solved : goal.returns-in-Solved
returns-in-Solved g c =
    let p = c.args.problem.now in
    let plan : Plan = c.args.plan.now in
    let work = PeriodsWork c.args.effort.budget p plan in
    let w = c.in-Solved.network in
    let lines : List (List ℕ) = design_lines p (folded p plan w) in
    Ends-map _ _ c.args.out.now _ _ (only_or_memory_in (Tells work) Done (text_of lines) (
      lines,
      least_text p plan c.least_network_is_least_design.ensures c.is_valid.ensures.valid
          c.requires.plan c.args.effort.budget w
          (solved_there c.accepted_is_optimal.ensures c.args.effort.budget p plan
          c.args.whole.now c.requires.whole c.is_valid-2.ensures.valid w c.in-Solved.tree
          (subst (λ (f : Found). IsFound c.args.whole.now first_node c.args.effort.budget f)
          c.in-Solved.is c.search_all.ensures)),
      refl,
    ) (Tells-memory work))
    (c.say_made.ensures lines c.network_text.ensures)

pub returns-in-Infeasible : goal.returns-in-Infeasible
returns-in-Infeasible g c =
    let p = c.args.problem.now in
    let plan : Plan = c.args.plan.now in
    let work = PeriodsWork c.args.effort.budget p plan in
    let lines : List (List ℕ) = codes "infeasible" ∷ [] in
    Ends-map _ _ c.args.out.now _ _ (only_in (Tells work) Done (text_of lines) (
      lines,
      none_text c.accepted_is_optimal.ensures c.args.effort.budget p plan c.args.whole.now
          c.requires.whole c.is_valid-2.ensures.valid c.no_network_is_no_design.ensures
          c.is_valid.ensures.valid c.requires.plan c.in-Infeasible.tree
          (subst (λ (f : Found). IsFound c.args.whole.now first_node c.args.effort.budget f)
          c.in-Infeasible.is c.search_all.ensures),
      refl,
    ))
    c.say.ensures

pub say_found-requires : goal.say_found-requires
say_found-requires g c = (c.args.effort.budget, c.search_all.ensures)

pub returns : goal.returns
returns g c =
    let p = c.args.problem.now in
    let plan : Plan = c.args.plan.now in
    let f : Found = c.search_all.result in
    Ends-map _ _ c.args.out.now _ _
    (Tells-map (FoundSays c.args.whole.now f) (PeriodsWork c.args.effort.budget p plan)
    (stopped_text c.accepted_is_optimal.ensures c.args.effort.budget p plan c.args.whole.now
    c.requires.whole c.is_valid-2.ensures.valid f c.search_all.ensures
    c.in_default-search_all.not-Solved c.in_default-search_all.not-Infeasible))
    c.say_found.ensures
