use Rattle.std.proofs.Common.{◌∙◌, [], refl, inl, ℕ, List, codes}
use Rattle.command_files.specs.studio_rules.Lines.{line}
use Rattle.network_commands.specs.Texts.{TextWork}
use Rattle.command_files.specs.studio_rules.Ending.{Tells}
use Rattle.command_files.specs.studio_rules.declared.status.Status.{Status}
use Rattle.command_files.specs.studio_rules.declared.status.Status.TheVariants.{Done, Memory}
use Rattle.command_files.proofs.Cited.{Ends-map, only_in}
use Rattle.network_commands.proofs.network.say_network.Goals as goal

pub returns-in-Ok : goal.returns-in-Ok
returns-in-Ok g c =
    let Q : Status → List ℕ → Type 0 =
    Tells (TextWork c.args.what c.args.site.now c.args.network.now) in
    let told = c.in-Ok.ensures in
    Ends-map _ Q c.args.out.now _ _
    (only_in Q Done c.deref.result.now (told.0, told.1, c.deref.ensures.value ∙ told.2))
    c.say_text.ensures

pub returns-in-Err : goal.returns-in-Err
returns-in-Err g c =
    let Q : Status → List ℕ → Type 0 =
    Tells (TextWork c.args.what c.args.site.now c.args.network.now) in
    Ends-map _ Q c.args.out.now _ _ (only_in Q Memory (line (codes "memory")) ([], inl refl, refl))
    c.say_memory.ensures
