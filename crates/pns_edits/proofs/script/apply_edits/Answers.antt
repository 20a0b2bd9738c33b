use Rattle.std.proofs.Common.{◌≡◌, ◌++◌, List, [], map, reverse, drop, slice_index_or, ap, ◌∙◌}
use Rattle.std.proofs.Common.{subst}
use Rattle.std.proofs.lemmas.List.{drop_all}
use Rattle.edit_laws.specs.edit_rules.Edit as rules
use Rattle.edit_laws.specs.edit_rules.Fault.{fault_of}
use Rattle.edit_laws.specs.edit_rules.Script.{undoing, IsFirstFault}
use Rattle.edit_scripts.specs.View.{edit_of}
use Rattle.pns_edits.specs.Answer.{Tells}
use Rattle.pns_edits.proofs.MappedLemmas.{map-reverse}
use Rattle.pns_edits.proofs.NumberedLemmas.{numbered_from_valid}
use Rattle.pns_edits.proofs.ScriptSteps.{next, stop, told_as}
use Rattle.pns_edits.proofs.script.apply_edits.Goals as goal

pub apply_edit-requires : goal.apply_edit-requires
apply_edit-requires c = numbered_from_valid c.applying.parts c.applying.invariant.valid

pub returns-in-Err-Kind-clause-fault : goal.returns-in-Err-Kind-clause-fault
returns-in-Err-Kind-clause-fault c =
    let edits = c.edits-edits.result.now in
    let i = c.applying.at in
    let item = c.index-edits-at.result in
    let told =
    told_as (fault_of c.applying.parts (edit_of item)) c.in-Err-Kind.kind
    (subst (λ r. Tells (fault_of c.applying.parts (edit_of item)) r) c.in-Err-Kind.field-0-is
    c.in-Err-Kind.ensures) in
    let first =
    stop c.args.parts.now c.applying.parts edits c.applying.back.items i item told.fault
    c.applying-test.true c.index-edits-at.is c.applying.invariant told.is in
    rw c.in-Err-Kind.field-0-is (record {
      fault = told.fault;
      stands = record {
        edit = i;
        first =
            subst (λ (es : List rules.Edit). IsFirstFault c.args.parts.now es i told.fault)
            c.edits-edits.ensures first;
        line_is = ap (λ ls. slice_index_or ls i 0) c.lines-lines.ensures;
      };
      kind_is = told.kind_is;
    })

pub applying-preserved : goal.applying-preserved
applying-preserved c =
    next c.args.parts.now c.applying.parts c.apply_edit.new.parts c.edits-edits.result.now
    c.applying.back.items c.push_inverse.new.back.items c.applying.at
    c.index-edits-at.result c.in-Ok.inverse c.applying-test.true c.index-edits-at.is
    c.applying.invariant c.in-Ok.ensures c.in_ok-push_inverse-in-Ok.ensures

pub returns-clause-back : goal.returns-clause-back
returns-clause-back c =
    let edits = c.edits-edits.result.now in
    let p = c.args.parts.now in
    let back = c.applying.back.items in
    let none : map edit_of (drop c.applying.at edits) ≡ [] =
    ap (map edit_of) (drop_all c.applying.at edits c.applying-test.false) in
    ap (map edit_of) c.reverse.ensures.items
    ∙ (map-reverse edit_of back
    ∙ (subst (λ (rest : List rules.Edit). undoing c.applying.parts rest
    ++ reverse (map edit_of back) ≡ undoing p (map edit_of edits)) none
    c.applying.invariant.undone
    ∙ ap (undoing p) c.edits-edits.ensures))
