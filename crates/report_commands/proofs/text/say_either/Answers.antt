use Rattle.std.proofs.Common.{◌∙◌, sym, ℕ, List}
use Rattle.network_commands.specs.studio_rules.TextFile.{RankSays, EitherSays}
use Rattle.network_commands.specs.studio_rules.HeadedFile.{HeadedSays}
use Rattle.network_commands.specs.studio_rules.Ending.{Tells}
use Rattle.network_commands.proofs.command_files.Cited.{Ends-map, Tells-map}
use Rattle.report_commands.specs.Works.{TreeWork, RankWork}
use Rattle.report_commands.proofs.Works.{of_ranking, of_tree}
use Rattle.report_commands.proofs.text.say_either.Goals as goal

pub returns-then-is_ranking : goal.returns-then-is_ranking
returns-then-is_ranking g c name =
    let form = c.args.form in
    let p = c.args.problem.now in
    let file = c.args.bytes.now in
    Ends-map (Tells (RankSays (RankWork form) name p file))
    (Tells (EitherSays (TreeWork form) (RankWork form) name p file)) c.args.out.now _ _
    (Tells-map (RankSays (RankWork form) name p file)
    (EitherSays (TreeWork form) (RankWork form) name p file)
    (of_ranking form name p file (sym c.is_ranking.ensures ∙ c.if-is_ranking.true)))
    (c.say_ranking.ensures name)

pub returns-else-is_ranking : goal.returns-else-is_ranking
returns-else-is_ranking g c name =
    let form = c.args.form in
    let p = c.args.problem.now in
    let file = c.args.bytes.now in
    Ends-map (Tells (HeadedSays (TreeWork form) name p file))
    (Tells (EitherSays (TreeWork form) (RankWork form) name p file)) c.args.out.now _ _
    (Tells-map (HeadedSays (TreeWork form) name p file)
    (EitherSays (TreeWork form) (RankWork form) name p file)
    (of_tree form name p file (sym c.is_ranking.ensures ∙ c.if-is_ranking.false)))
    (c.say_tree.ensures name)
