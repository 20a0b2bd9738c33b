use Rattle.std.proofs.Common.{◌≡◌, ◌<◌, arith, ◌∷◌, [], refl, ap, subst, sym, ◌∙◌, inl, inr, ℕ}
use Rattle.std.proofs.Common.{List, Bool, nat_lt, get_or, length, map, codes, string_bytes}
use Rattle.std.proofs.lemmas.List.{length-map, get_or-map}
use Rattle.network_commands.specs.problem_rules.Problem.{Problem}
use Rattle.network_commands.specs.branch_tree.View.{claim_of}
use Rattle.network_commands.specs.tree_rules.Known.{KnowsClaim, KnowsTree}
use Rattle.network_commands.specs.tree_rules.Tail.{whole}
use Rattle.network_commands.specs.pns_rules.Shape.{shape_of}
use Rattle.network_commands.specs.tree_text_rules.Spelling.{tree_text_lines}
use Rattle.network_commands.specs.studio_rules.Merge.{MergeSays, FaultSays}
use Rattle.part_commands.proofs.MergeLines.{inside_known, merged_known}
use Rattle.network_commands.specs.studio_rules.Lines.{line}
use Rattle.network_commands.specs.studio_rules.Printed.{OneAnswer}
use Rattle.network_commands.specs.studio_rules.Ending.{Ends, Tells}
use Rattle.network_commands.specs.studio_rules.declared.status.Status.{Status}
use Rattle.network_commands.specs.studio_rules.declared.status.Status.TheVariants.{Done, Memory}
use Rattle.network_commands.proofs.command_files.Cited.{Ends-map, Tells-map, Tells-memory, only_in}
use Rattle.part_commands.proofs.merge.say_put_back.Goals as goal

pub merge_all-requires : goal.merge_all-requires
merge_all-requires g c =
    record {
      known =
          inside_known c.args.site.now (shape_of c.args.site.now) refl c.args.parts.now
          c.requires.parts;
    }

pub say_tree_text-requires-clause-claim : goal.say_tree_text-requires-clause-claim
say_tree_text-requires-clause-claim g c =
    subst (λ (p : Problem). KnowsClaim p (claim_of c.in-Ok.both)) (sym c.problem.ensures.same)
    (merged_known c.args.site.now (claim_of c.args.claim) c.args.tree c.args.parts.now
    (claim_of c.in-Ok.both) c.in-Ok.grown c.in-Ok.ensures.merged c.requires.claim
    c.requires.tree c.requires.parts).0

pub say_tree_text-requires-clause-tree : goal.say_tree_text-requires-clause-tree
say_tree_text-requires-clause-tree g c =
    subst (λ (p : Problem). KnowsTree p c.in-Ok.grown) (sym c.problem.ensures.same)
    (merged_known c.args.site.now (claim_of c.args.claim) c.args.tree c.args.parts.now
    (claim_of c.in-Ok.both) c.in-Ok.grown c.in-Ok.ensures.merged c.requires.claim
    c.requires.tree c.requires.parts).1

pub returns-in-Ok : goal.returns-in-Ok
returns-in-Ok g c =
    let p = c.args.site.now in
    let both = claim_of c.in-Ok.both in
    let grown = c.in-Ok.grown in
    let says =
    MergeSays (map string_bytes c.args.names.now) p (claim_of c.args.claim) c.args.tree
    c.args.parts.now in
    Ends-map _ _ c.args.out.now _ _
    (Tells-map (OneAnswer Done (tree_text_lines p both grown whole)) says
    (λ s lines h. inl
    (record {
      both = both;
      grown = grown;
      merged = c.in-Ok.ensures.merged;
      done = h.0;
      text =
          h.1;
    })))
    (subst
    (λ (q : Problem). Ends (Tells (OneAnswer Done (tree_text_lines q both grown whole)))
    c.args.out.now c.say_tree_text.new.out c.say_tree_text.result) c.problem.ensures.same
    c.say_tree_text.ensures)

pub returns-in-Err : goal.returns-in-Err
returns-in-Err g c =
    let list = c.args.names.now in
    let names = map string_bytes list in
    let stop = c.in-Err.stop in
    let stops = c.in-Err.ensures.fault in
    let few = stops.within in
    let as_many = c.requires.count in
    let name : c.as_str-name.result.now ≡ get_or names stop.part [] =
    c.as_str-name.ensures.value
    ∙ (ap string_bytes c.index-names-stop.is
    ∙ sym
    (get_or-map string_bytes list stop.part c.index-names-stop.result []
    (omega (arith, few, as_many)))) in
    let several : nat_lt 1 (length list) ≡ nat_lt 1 (length names) =
    ap (λ (n : ℕ). nat_lt 1 n) (sym (length-map list string_bytes)) in
    let says =
    MergeSays names c.args.site.now (claim_of c.args.claim) c.args.tree c.args.parts.now in
    Ends-map _ _ c.args.out.now _ _
    (Tells-map (FaultSays (nat_lt 1 (length list)) c.as_str-name.result.now stop.fault) says
    (λ s lines h. inr (record {
      place = stop.part;
      fault = stop.fault;
      stops = stops;
      says =
          subst (λ (n : List ℕ). FaultSays (nat_lt 1 (length names)) n stop.fault s lines) name
          (subst (λ (b : Bool). FaultSays b c.as_str-name.result.now stop.fault s lines) several
          h);
    })))
    c.say_fault.ensures
