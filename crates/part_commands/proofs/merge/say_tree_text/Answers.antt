use Rattle.std.proofs.Common.{refl}
use Rattle.network_commands.specs.branch_tree.View.{claim_of}
use Rattle.network_commands.specs.tree_rules.Tail.{whole}
use Rattle.network_commands.specs.tree_text_rules.Spelling.{tree_text_lines}
use Rattle.network_commands.specs.studio_rules.Printed.{OneAnswer}
use Rattle.network_commands.specs.studio_rules.Ending.{Tells}
use Rattle.network_commands.specs.studio_rules.declared.status.Status.TheVariants.{Done}
use Rattle.network_commands.proofs.command_files.Cited.{Ends-from}
use Rattle.part_commands.proofs.merge.say_tree_text.Goals as goal

pub returns : goal.returns
returns g c =
    let lines =
    tree_text_lines c.args.problem.now (claim_of c.args.claim.now) c.args.tree.now whole in
    let says = Tells (OneAnswer Done lines) in
    Ends-from says says c.args.out.now _ c.say_printed.new.out _ c.out.view_is (λ s t h. h)
    (c.say_printed.ensures lines _ refl c.print_tree-printed.ensures.later
    c.print_tree-printed.ensures.prints)
