use Rattle.std.proofs.Common.{subst}
use Rattle.rank_text.specs.problem_rules.Problem.{Problem}
use Rattle.searches.specs.studio_rules.Ending.{Tells}
use Rattle.searches.specs.studio_rules.declared.status.Status.TheVariants.{Memory}
use Rattle.searches.proofs.command_files.Cited.{Ends-map, Tells-map, Tells-memory, only_in}
use Rattle.searches.specs.rank_search.Ranked.{IsRankedTo}
use Rattle.rank_commands.specs.Found.{FoundSays}
use Rattle.searches.specs.studio_rules.Rank.{RankWork}
use Rattle.rank_commands.proofs.Rankings.{can_print, found_works}
use Rattle.rank_commands.proofs.command.say_ranked.Goals as goal

pub say_found-requires : goal.say_found-requires
say_found-requires g c =
    can_print c.args.problem.now c.args.count c.args.effort.budget c.rank_watched-ranked.result
    (subst
    (λ (p : Problem). IsRankedTo p c.args.count c.args.effort.budget c.rank_watched-ranked.result)
    c.of-site.ensures c.rank_watched-ranked.ensures)

pub returns-in_default : goal.returns-in_default
returns-in_default g c =
    let work = RankWork c.args.count c.args.effort.budget c.args.problem.now in
    Ends-map _ _ c.args.out.now _ _ (only_in (Tells work) Memory _ (Tells-memory work))
    c.say_memory.ensures

pub returns : goal.returns
returns g c =
    let p = c.args.problem.now in
    let count = c.args.count in
    let budget = c.args.effort.budget in
    let r = c.rank_watched-ranked.result in
    let is =
    subst (λ (p : Problem). IsRankedTo p count budget r) c.of-site.ensures
    c.rank_watched-ranked.ensures in
    Ends-map _ _ c.args.out.now _ _ (Tells-map (FoundSays p r) (RankWork count budget p)
    (found_works c.listed_are_least.ensures c.others_are_no_better.ensures.full
    c.others_are_no_better.ensures.fewer p c.is_valid.ensures.valid count budget r is))
    c.say_found.ensures
