use Rattle.std.proofs.Common.{sym, subst, ℕ, List}
use Rattle.rank_text.specs.problem_rules.Problem.{Problem}
use Rattle.network_commands.specs.studio_rules.RankReport.{RankReportWork}
use Rattle.network_commands.specs.studio_rules.RankJson.{RankJsonWork}
use Rattle.network_commands.specs.studio_rules.RankGraph.{RankGraphWork}
use Rattle.network_commands.specs.studio_rules.Ending.{Ends, Tells}
use Rattle.report_commands.specs.declared.form.Form.{Form}
use Rattle.report_commands.specs.Works.{RankWork}
use Rattle.report_commands.proofs.ranking.say_ranked.Goals as goal

pub returns-in-Report : goal.returns-in-Report
returns-in-Report g c =
    let t = c.args.ranking.now in
    subst
    (λ (f : Form). Ends (Tells (RankWork f c.args.problem.now t)) c.args.out.now
    c.say_judged.new.out c.say_judged.result) (sym c.in-Report.is)
    (subst
    (λ (p : Problem). Ends (Tells (RankReportWork c.in-Report.measures.now p t)) c.args.out.now
    c.say_judged.new.out c.say_judged.result) c.of-site.ensures c.say_judged.ensures)

pub returns-in-Json : goal.returns-in-Json
returns-in-Json g c =
    let t = c.args.ranking.now in
    subst
    (λ (f : Form). Ends (Tells (RankWork f c.args.problem.now t)) c.args.out.now
    c.say_judged-in-Json.new.out c.say_judged-in-Json.result) (sym c.in-Json.is)
    (subst
    (λ (p : Problem). Ends (Tells (RankJsonWork p t)) c.args.out.now c.say_judged-in-Json.new.out
    c.say_judged-in-Json.result) c.of-site.ensures c.say_judged-in-Json.ensures)

pub returns : goal.returns
returns g c =
    let t = c.args.ranking.now in
    subst
    (λ (f : Form). Ends (Tells (RankWork f c.args.problem.now t)) c.args.out.now
    c.say_drawn.new.out c.say_drawn.result) (sym c.in-Graph.is)
    (subst
    (λ (p : Problem). Ends (Tells (RankGraphWork c.in-Graph.scene p t)) c.args.out.now
    c.say_drawn.new.out c.say_drawn.result) c.of-site.ensures c.say_drawn.ensures)
