use Rattle.std.proofs.Common.{◌∙◌, sym}
use Rattle.tree_text.specs.tree_text_rules.Read.{Certificate}
use Rattle.command_files.specs.studio_rules.Ending.{Tells}
use Rattle.command_files.specs.studio_rules.declared.status.Status.TheVariants.{Memory}
use Rattle.command_files.proofs.Cited.{Ends-map, Tells-map, Tells-memory, only_in}
use Rattle.searches.specs.Found.{CertificateSays, FoundSays}
use Rattle.searches.proofs.FoundTexts.{can_print}
use Rattle.searches.proofs.certificate.say_found.Goals as goal

pub say-requires : goal.say-requires
say-requires g c =
    let f = c.args.found in
    let can =
    can_print c.requires.0 c.args.problem.now f c.requires.1 c.in-Some.certificate
    (sym c.certificate_of.ensures ∙ c.in-Some.is) in
    record { claim = can.claim; tree = can.tree; tail = can.tail; few = can.few }

pub returns-in-Some : goal.returns-in-Some
returns-in-Some g c =
    let p = c.args.problem.now in
    let f = c.args.found in
    let q : Certificate = c.in-Some.certificate in
    Ends-map _ _ c.args.out.now _ _
    (Tells-map (CertificateSays p q) (FoundSays p f)
    (λ s lines h. (q, sym c.certificate_of.ensures ∙ c.in-Some.is, h))) c.say.ensures

pub returns-in-None : goal.returns-in-None
returns-in-None g c =
    Ends-map _ _ c.args.out.now _ _
    (only_in (Tells (FoundSays c.args.problem.now c.args.found)) Memory _
    (Tells-memory (FoundSays c.args.problem.now c.args.found))) c.say_memory.ensures
