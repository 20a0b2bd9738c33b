use Rattle.network_commands.specs.studio_rules.RangesJson.{AnySays}
use Rattle.network_commands.specs.studio_rules.TextFile.{EitherSays}
use Rattle.network_commands.specs.studio_rules.Ending.{Tells}
use Rattle.network_commands.proofs.command_files.Cited.{Ends-map, Tells-map}
use Rattle.report_commands.specs.Works.{TreeWork, RankWork, FormSays}
use Rattle.report_commands.specs.declared.form.Form.TheVariants.{Report, Graph}
use Rattle.report_commands.proofs.Works.{in_report, in_json, in_graph}
use Rattle.report_commands.proofs.text.say_any.Goals as goal

pub returns-in-Report : goal.returns-in-Report
returns-in-Report g c name =
    let form = c.args.form in
    let ms = c.in-Report.measures in
    let p = c.args.problem.now in
    let file = c.args.bytes.now in
    Ends-map (Tells (EitherSays (TreeWork (Report ms)) (RankWork (Report ms)) name p file))
    (Tells (FormSays form name p file)) c.args.out.now _ _
    (Tells-map (EitherSays (TreeWork (Report ms)) (RankWork (Report ms)) name p file)
    (FormSays form name p file) (in_report name p file form ms c.in-Report.is))
    (c.say_either.ensures name)

pub returns-in-Json : goal.returns-in-Json
returns-in-Json g c name =
    let form = c.args.form in
    let p = c.args.problem.now in
    let file = c.args.bytes.now in
    Ends-map (Tells (AnySays name p file)) (Tells (FormSays form name p file)) c.args.out.now _ _
    (Tells-map (AnySays name p file) (FormSays form name p file)
    (in_json name p file form c.in-Json.is))
    (c.say_object.ensures name)

pub returns-in-Graph : goal.returns-in-Graph
returns-in-Graph g c name =
    let form = c.args.form in
    let p = c.args.problem.now in
    let file = c.args.bytes.now in
    let scene = c.in-Graph.scene in
    Ends-map (Tells (EitherSays (TreeWork (Graph scene)) (RankWork (Graph scene)) name p file))
    (Tells (FormSays form name p file)) c.args.out.now _ _
    (Tells-map (EitherSays (TreeWork (Graph scene)) (RankWork (Graph scene)) name p file)
    (FormSays form name p file) (in_graph name p file form scene c.in-Graph.is))
    (c.say_either-in-Graph.ensures name)
