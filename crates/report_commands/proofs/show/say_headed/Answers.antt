use Rattle.std.proofs.Common.{◌∙◌, refl}
use Rattle.network_commands.specs.studio_rules.Ending.{Tells}
use Rattle.network_commands.specs.studio_rules.Show.{HeadedShows}
use Rattle.network_commands.specs.studio_rules.declared.status.Status.TheVariants.{Done, Memory}
use Rattle.network_commands.proofs.command_files.Cited.{Ends-map, Tells-memory, only_in}
use Rattle.searches.specs.Solution.{certificate_of}
use Rattle.report_commands.proofs.show.say_headed.Goals as goal

pub returns-in-Ok : goal.returns-in-Ok
returns-in-Ok g c =
    let plant = c.args.plant.now in
    let h = c.args.headed in
    let shows = HeadedShows plant.measures.now plant.site.now
    (certificate_of h.network h.head h.tree) in
    let told = c.in-Ok.ensures.says in
    Ends-map _ _ c.args.out.now _ _
    (only_in (Tells shows) Done c.deref.result.now
    (told.0, (refl, told.1), c.deref.ensures.value ∙ told.2)) c.say_text.ensures

pub returns : goal.returns
returns g c =
    let plant = c.args.plant.now in
    let h = c.args.headed in
    let shows = HeadedShows plant.measures.now plant.site.now
    (certificate_of h.network h.head h.tree) in
    Ends-map _ _ c.args.out.now _ _ (only_in (Tells shows) Memory _ (Tells-memory shows))
    c.say_memory.ensures
