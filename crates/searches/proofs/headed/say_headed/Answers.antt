use Rattle.std.proofs.Common.{List, refl}
use Rattle.tree_text.specs.tree_rules.Claim as claims
use Rattle.tree_text.specs.tree_rules.Tail.{whole}
use Rattle.tree_text.specs.tree_text_rules.Line.{Token}
use Rattle.tree_text.specs.tree_text_rules.Spelling.{headed_text_lines}
use Rattle.command_files.specs.studio_rules.Printed.{OneAnswer}
use Rattle.command_files.specs.studio_rules.Solve.{HeadedWork}
use Rattle.command_files.specs.studio_rules.declared.status.Status.TheVariants.{Done}
use Rattle.command_files.proofs.Cited.{Tells-map, Ends-from}
use Rattle.searches.proofs.Solved.{headed_works}
use Rattle.searches.proofs.headed.say_headed.Goals as goal

pub returns : goal.returns
returns g c =
    let p = c.args.problem.now in
    let h = c.args.headed in
    let lines : List (List Token) =
    headed_text_lines p (claims.network h.network) h.head h.tree whole in
    Ends-from _ _ c.args.out.now _ c.say_printed.new.out _ c.out.view_is
    (Tells-map (OneAnswer Done lines) (HeadedWork p)
    (headed_works p h.network h.head h.tree c.requires c.reads_back.ensures))
    (c.say_printed.ensures lines _ refl c.print_headed-printed.ensures.later
    c.print_headed-printed.ensures.prints)
