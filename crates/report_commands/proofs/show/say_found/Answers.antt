use Rattle.std.proofs.Common.{◌∙◌, sym}
use Rattle.rank_text.specs.tree_text_rules.Read.{Certificate}
use Rattle.network_commands.specs.studio_rules.Ending.{Tells}
use Rattle.network_commands.specs.studio_rules.Show.{CertificateShows}
use Rattle.network_commands.specs.studio_rules.declared.status.Status.TheVariants.{Memory}
use Rattle.network_commands.proofs.command_files.Cited.{Ends-map, Tells-map, Tells-memory, only_in}
use Rattle.searches.proofs.Cited.{can_print}
use Rattle.report_commands.specs.Shown.{FoundShows}
use Rattle.report_commands.proofs.show.say_found.Goals as goal

pub say_certificate-requires : goal.say_certificate-requires
say_certificate-requires g c =
    let f = c.args.found in
    let can =
    can_print c.requires.0 c.args.plant.now.site.now f c.requires.1 c.in-Some.certificate
    (sym c.certificate_of.ensures ∙ c.in-Some.is) in
    record { few = can.few }

pub returns-in-Some : goal.returns-in-Some
returns-in-Some g c =
    let p = c.args.plant.now.site.now in
    let ms = c.args.plant.now.measures.now in
    let f = c.args.found in
    let q : Certificate = c.in-Some.certificate in
    Ends-map _ _ c.args.out.now _ _
    (Tells-map (CertificateShows ms p q) (FoundShows ms p f)
    (λ s lines h. (q, sym c.certificate_of.ensures ∙ c.in-Some.is, h)))
    c.say_certificate.ensures

pub returns-in-None : goal.returns-in-None
returns-in-None g c =
    let plant = c.args.plant.now in
    let shows = FoundShows plant.measures.now plant.site.now c.args.found in
    Ends-map _ _ c.args.out.now _ _ (only_in (Tells shows) Memory _ (Tells-memory shows))
    c.say_memory.ensures
