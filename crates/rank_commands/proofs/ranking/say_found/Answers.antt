use Rattle.std.proofs.Common.{◌∙◌, sym}
use Rattle.rank_text.specs.rank_rules.Text.{Text}
use Rattle.searches.specs.studio_rules.Ending.{Tells}
use Rattle.searches.specs.studio_rules.declared.status.Status.TheVariants.{Memory}
use Rattle.searches.proofs.command_files.Cited.{Ends-map, Tells-map, Tells-memory, only_in}
use Rattle.rank_commands.specs.Found.{RankingSays, FoundSays}
use Rattle.rank_commands.proofs.ranking.say_found.Goals as goal

pub say_ranking-requires : goal.say_ranking-requires
say_ranking-requires g c =
    let can = c.requires c.in-Some.text (sym c.ranking_found.ensures ∙ c.in-Some.is) in
    record { known = can.known; few = can.few }

pub returns-in-Some : goal.returns-in-Some
returns-in-Some g c =
    let p = c.args.problem.now in
    let t : Text = c.in-Some.text in
    Ends-map _ _ c.args.out.now _ _
    (Tells-map (RankingSays p t) (FoundSays p c.args.ranked)
    (λ s lines h. (t, sym c.ranking_found.ensures ∙ c.in-Some.is, h))) c.say_ranking.ensures

pub returns-in-None : goal.returns-in-None
returns-in-None g c =
    let says = FoundSays c.args.problem.now c.args.ranked in
    Ends-map _ _ c.args.out.now _ _ (only_in (Tells says) Memory _ (Tells-memory says))
    c.say_memory.ensures
