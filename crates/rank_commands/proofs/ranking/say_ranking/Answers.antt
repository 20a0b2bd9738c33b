use Rattle.std.proofs.Common.{◌≡◌, ◌∙◌, ap, refl}
use Rattle.searches.specs.studio_rules.Solve.{status_of}
use Rattle.searches.proofs.Cited.{is_printing}
use Rattle.rank_text.specs.rank_rules.Spelling.{rank_text_lines}
use Rattle.searches.specs.studio_rules.Printed.{OneAnswer}
use Rattle.searches.proofs.command_files.Cited.{Tells-map, Ends-from}
use Rattle.rank_commands.specs.Found.{RankingSays}
use Rattle.rank_commands.proofs.Rankings.{says}
use Rattle.rank_commands.proofs.ranking.say_ranking.Goals as goal

pub say_searched-requires-clause-printing : goal.say_searched-requires-clause-printing
say_searched-requires-clause-printing g c =
    is_printing c.args.text.now.tail c.status_of.result
    (c.status_of.ensures ∙ ap status_of c.tail-2.ensures)

pub returns : goal.returns
returns g c =
    let p = c.args.problem.now in
    let t = c.args.text.now in
    let lines = rank_text_lines p t in
    let same : c.status_of.result ≡ status_of t.tail =
    c.status_of.ensures ∙ ap status_of c.tail-2.ensures in
    let out = c.print_rank-printed in
    Ends-from _ _ c.args.out.now _ c.say_searched.new.out _ c.out.view_is
    (Tells-map (OneAnswer c.status_of.result lines) (RankingSays p t)
    (says p t c.status_of.result same c.reads_back.ensures))
    (c.say_searched.ensures lines _ refl out.ensures.later out.ensures.prints)
