use Rattle.std.proofs.Common.{◌≡◌, ◌∷◌, ◌∙◌, sym, subst, List, SFits, rules, refl}
use Rattle.std.specs.Int.{w64}
use Rattle.std.proofs.lemmas.Int.{to_z-of_z}
use Rattle.stability.specs.problem_rules.Problem.{Problem}
use Rattle.stability.specs.tree_text_rules.Line.{Token}
use Rattle.stability.specs.tree_text_rules.Read.{Certificate}
use Rattle.stability.specs.tree_text_rules.Spelling.{tree_text_lines}
use Rattle.network_commands.specs.studio_rules.Ending.{Tells}
use Rattle.network_commands.specs.studio_rules.Printed.{OneAnswer}
use Rattle.network_commands.specs.studio_rules.declared.status.Status.TheVariants.{Memory}
use Rattle.network_commands.proofs.command_files.Cited.{Ends-map, Tells-map, Tells-memory, only_in}
use Rattle.network_commands.proofs.command_files.Cited.{Ends-from}
use Rattle.searches.proofs.Cited.{CanPrint, is_printing}
use Rattle.stability.specs.report_rules.Spot.{valued}
use Rattle.network_commands.specs.studio_rules.Stable.{at_line}
use Rattle.stability_commands.specs.Beyond.{StopSays}
use Rattle.stability_commands.proofs.Told.{can_print_there, stop_says}
use Rattle.stability_commands.proofs.stable.say_stopped.Goals as goal

pub reads_back-requires : goal.reads_back-requires
reads_back-requires g c =
    let q = valued c.args.problem.now c.args.spot c.args.value in
    let f : SFits w64 c.args.value = search rules in
    let can : CanPrint c.in-Ok.other c.in-Some.certificate =
    can_print_there q c.in-Ok.other c.requires.found.0 c.args.found c.in-Some.certificate
    c.certificate_of.result (simp to_z-of_z at c.in-Ok.ensures) c.requires.found.1
    c.certificate_of.ensures c.in-Some.is in
    record { claim = can.claim; tree = can.tree; tail = can.tail; few = can.few }

pub print_stopped-printed-requires : goal.print_stopped-printed-requires
print_stopped-printed-requires g c =
    let q = valued c.args.problem.now c.args.spot c.args.value in
    let f : SFits w64 c.args.value = search rules in
    let can : CanPrint c.in-Ok.other c.in-Some.certificate =
    can_print_there q c.in-Ok.other c.requires.found.0 c.args.found c.in-Some.certificate
    c.certificate_of.result (simp to_z-of_z at c.in-Ok.ensures) c.requires.found.1
    c.certificate_of.ensures c.in-Some.is in
    record { claim = can.claim; tree = can.tree; tail = can.tail }

pub say_printed-requires : goal.say_printed-requires
say_printed-requires g c = is_printing c.in-Some.certificate.tail c.status.result c.status.ensures

pub returns-in_default : goal.returns-in_default
returns-in_default g c =
    let says =
    StopSays (valued c.args.problem.now c.args.spot c.args.value) c.args.value c.args.found in
    Ends-map _ _ c.args.out.now _ _ (only_in (Tells says) Memory _ (Tells-memory says))
    c.say_memory.ensures

pub returns-in-Some : goal.returns-in-Some
returns-in-Some g c =
    let q = valued c.args.problem.now c.args.spot c.args.value in
    let v = c.args.value in
    let fits : SFits w64 v = search rules in
    let r : Problem = c.in-Ok.other in
    let same : r ≡ q = simp to_z-of_z at c.in-Ok.ensures in
    let d : Certificate = c.in-Some.certificate in
    let lines : List (List Token) = at_line v ∷ tree_text_lines r d.claim d.tree d.tail in
    Ends-from _ _ c.args.out.now _ c.say_printed.new.out _ c.out.view_is
    (Tells-map (OneAnswer c.status.result lines) (StopSays q v c.args.found)
    (λ s ls h. subst (λ (t : Problem). StopSays t v c.args.found s ls) same
    (stop_says r v c.args.found d (sym c.certificate_of.ensures ∙ c.in-Some.is)
    c.reads_back.ensures c.status.result c.status.ensures s ls h)))
    (c.say_printed.ensures lines _ refl c.print_stopped-printed.ensures.later
    (simp to_z-of_z at c.print_stopped-printed.ensures.prints))

pub returns : goal.returns
returns g c =
    let says =
    StopSays (valued c.args.problem.now c.args.spot c.args.value) c.args.value c.args.found in
    Ends-map _ _ c.args.out.now _ _ (only_in (Tells says) Memory _ (Tells-memory says))
    c.say_memory-in-None.ensures
