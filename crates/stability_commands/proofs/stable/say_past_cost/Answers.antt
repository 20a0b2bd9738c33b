use Rattle.std.proofs.Common.{SFits, rules, refl}
use Rattle.std.specs.Int.{w64}
use Rattle.std.proofs.lemmas.Int.{to_z-of_z}
use Rattle.network_commands.specs.studio_rules.Stable.{past_cost_lines}
use Rattle.network_commands.specs.studio_rules.Printed.{OneAnswer}
use Rattle.network_commands.specs.studio_rules.Ending.{Tells}
use Rattle.network_commands.specs.studio_rules.declared.status.Status.TheVariants.{Past}
use Rattle.network_commands.proofs.command_files.Cited.{Ends-from}
use Rattle.stability_commands.proofs.stable.say_past_cost.Goals as goal

pub returns : goal.returns
returns g c =
    let r : SFits w64 c.args.value = search rules in
    let lines = past_cost_lines c.args.value c.args.at in
    let says = Tells (OneAnswer Past lines) in
    Ends-from says says c.args.out.now _ c.say_printed.new.out _ c.out.view_is (λ s t h. h)
    (c.say_printed.ensures lines _ refl c.print_past_cost-printed.ensures.later
    (simp to_z-of_z at c.print_past_cost-printed.ensures.prints))
