use Rattle.std.proofs.Common.{subst}
use Rattle.rank_text.specs.problem_rules.Problem.{Problem}
use Rattle.searches.specs.studio_rules.Ending.{Tells}
use Rattle.searches.specs.studio_rules.declared.status.Status.TheVariants.{Memory}
use Rattle.searches.proofs.command_files.Cited.{Ends-map, Tells-map, Tells-memory, only_in}
use Rattle.searches.specs.rank_search.DistinctListed.{IsListedTo}
use Rattle.rank_commands.specs.Found.{FoundSays}
use Rattle.searches.specs.studio_rules.Alternates.{AlternatesWork}
use Rattle.rank_commands.proofs.DistinctLists.{can_print, found_works}
use Rattle.rank_commands.proofs.alternates.say_listed.Goals as goal

pub say_found-requires : goal.say_found-requires
say_found-requires g c =
    can_print c.args.problem.now c.args.count c.args.effort.budget
    c.alternatives_watched-listed.result
    (subst
    (λ (p : Problem). IsListedTo p c.args.count c.args.effort.budget
    c.alternatives_watched-listed.result) c.of-site.ensures c.alternatives_watched-listed.ensures)

pub returns-in_default : goal.returns-in_default
returns-in_default g c =
    let work = AlternatesWork c.args.count c.args.effort.budget c.args.problem.now in
    Ends-map _ _ c.args.out.now _ _ (only_in (Tells work) Memory _ (Tells-memory work))
    c.say_memory.ensures

pub returns : goal.returns
returns g c =
    let p = c.args.problem.now in
    let count = c.args.count in
    let budget = c.args.effort.budget in
    let r = c.alternatives_watched-listed.result in
    let is =
    subst (λ (p : Problem). IsListedTo p count budget r) c.of-site.ensures
    c.alternatives_watched-listed.ensures in
    Ends-map _ _ c.args.out.now _ _ (Tells-map (FoundSays p r) (AlternatesWork count budget p)
    (found_works c.alternatives_are_right.ensures p c.is_valid.ensures.valid count budget r is))
    c.say_found.ensures
