use Rattle.std.proofs.Common.{◌∙◌, sym}
use Rattle.network_commands.specs.studio_rules.Json.{JsonWork}
use Rattle.network_commands.specs.studio_rules.RankJson.{RankJsonWork}
use Rattle.network_commands.specs.studio_rules.RangesJson.{TableSays, AnySays}
use Rattle.network_commands.specs.studio_rules.TextFile.{EitherSays}
use Rattle.network_commands.specs.studio_rules.Ending.{Tells}
use Rattle.network_commands.proofs.command_files.Cited.{Ends-map, Tells-map}
use Rattle.report_commands.proofs.Works.{of_table, of_other}
use Rattle.report_commands.proofs.text.say_object.Goals as goal

pub returns-then-is_table : goal.returns-then-is_table
returns-then-is_table g c name =
    let p = c.args.problem.now in
    let file = c.args.bytes.now in
    Ends-map (Tells (TableSays name p file)) (Tells (AnySays name p file)) c.args.out.now _ _
    (Tells-map (TableSays name p file) (AnySays name p file)
    (of_table name p file (sym c.is_table.ensures ∙ c.if-is_table.true)))
    (c.say_table.ensures name)

pub returns-else-is_table : goal.returns-else-is_table
returns-else-is_table g c name =
    let p = c.args.problem.now in
    let file = c.args.bytes.now in
    Ends-map (Tells (EitherSays JsonWork RankJsonWork name p file)) (Tells (AnySays name p file))
    c.args.out.now _ _
    (Tells-map (EitherSays JsonWork RankJsonWork name p file) (AnySays name p file)
    (of_other name p file (sym c.is_table.ensures ∙ c.if-is_table.false)))
    (c.say_either.ensures name)
