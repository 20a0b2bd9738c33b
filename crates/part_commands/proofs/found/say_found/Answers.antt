use Rattle.std.proofs.Common.{◌∙◌, sym, subst}
use Rattle.network_commands.specs.pgraph.View.{node_of}
use Rattle.network_commands.specs.tree_rules.Known.{KnowsClaim, KnowsTree, KnowsTail}
use Rattle.network_commands.specs.tree_text_rules.Read.{Certificate}
use Rattle.network_commands.specs.tree_text_rules.Part.{Part}
use Rattle.network_commands.specs.studio_rules.Ending.{Tells}
use Rattle.network_commands.specs.studio_rules.declared.status.Status.TheVariants.{Memory}
use Rattle.network_commands.proofs.command_files.Cited.{Ends-map, Tells-map, Tells-memory, only_in}
use Rattle.part_commands.specs.Found.{ReadsBack, TextSays, FoundSays}
use Rattle.part_commands.proofs.Parts.{CanPrint, can_print}
use Rattle.part_commands.proofs.found.say_found.Goals as goal

pub reads_back-requires : goal.reads_back-requires
reads_back-requires g c =
    let can : CanPrint c.args.problem.now c.in-Some.certificate =
    can_print c.args.problem.now (node_of c.args.start.now) c.requires.found.0 c.args.found
    c.requires.found.1 c.in-Some.certificate (sym c.certificate_of.ensures ∙ c.in-Some.is) in
    record {
      inside = c.requires.known.0;
      outside = c.requires.known.1;
      apart = c.requires.apart;
      claim = can.claim;
      tree = can.tree;
      tail = can.tail;
      few = can.few;
    }

pub say_part-requires : goal.say_part-requires
say_part-requires g c =
    let p = c.args.problem.now in
    let can : CanPrint p c.in-Some.certificate =
    can_print p (node_of c.args.start.now) c.requires.found.0 c.args.found c.requires.found.1
    c.in-Some.certificate (sym c.certificate_of.ensures ∙ c.in-Some.is) in
    let is = sym c.part_of-part.ensures in
    record {
      claim = subst (λ (part : Part). KnowsClaim p part.claim) is can.claim;
      tree = subst (λ (part : Part). KnowsTree p part.tree) is can.tree;
      tail = subst (λ (part : Part). KnowsTail p part.tail) is can.tail;
      reads = subst (λ (part : Part). ReadsBack p part) is c.reads_back.ensures;
    }

pub returns-in-Some : goal.returns-in-Some
returns-in-Some g c =
    let p = c.args.problem.now in
    let start = c.args.start.now in
    let found : Certificate = c.in-Some.certificate in
    Ends-map _ _ c.args.out.now _ _
    (Tells-map (TextSays p c.part_of-part.result)
    (FoundSays p start.inside start.outside c.args.found)
    (λ s lines h. (
      found,
      sym c.certificate_of.ensures ∙ c.in-Some.is,
      subst (λ (part : Part). TextSays p part s lines) c.part_of-part.ensures h,
    )))
    c.say_part.ensures

pub returns-in-None : goal.returns-in-None
returns-in-None g c =
    let says =
    FoundSays c.args.problem.now c.args.start.now.inside c.args.start.now.outside
    c.args.found in
    Ends-map _ _ c.args.out.now _ _ (only_in (Tells says) Memory _ (Tells-memory says))
    c.say_memory.ensures
