use Rattle.std.proofs.Common.{suc, Ok, sym, ap, ◌∙◌, subst}
use Rattle.std.proofs.lemmas.Result.{err_from_is_err_and}
use Rattle.tree_text_laws.specs.tree_text_rules.Part.{Part}
use Rattle.tree_text_laws.specs.tree_text_rules.PartRead.{PartReads}
use Rattle.tree_parts.proofs.Reading.{outside_told, rest_read, rest_told}
use Rattle.tree_parts.proofs.read.read_part.Goals as goal

pub returns-in_err-outside-clause-fault : goal.returns-in_err-outside-clause-fault
returns-in_err-outside-clause-fault c =
    let e =
    err_from_is_err_and c.from_residual-in_err-outside.result
    c.from_residual-in_err-outside.ensures.1 in
    let type = sym c.is_file_type.ensures ∙ c.if-not-is_file_type.false in
    let third = c.in_ok-inside.ensures.number ∙ ap suc c.in-Some.ensures.number in
    rw (e.1, e.2)
    (outside_told c.args.problem.now c.args.bytes.now c.in-Some.ensures.line type
    c.empty.ensures c.in_ok-inside.ensures.taken third _ c.in_err-outside.ensures.fault)

pub returns-in_err-claim-clause-fault : goal.returns-in_err-claim-clause-fault
returns-in_err-claim-clause-fault c =
    let e =
    err_from_is_err_and c.from_residual-in_err-claim.result
    c.from_residual-in_err-claim.ensures.1 in
    let type = sym c.is_file_type.ensures ∙ c.if-not-is_file_type.false in
    let third = c.in_ok-inside.ensures.number ∙ ap suc c.in-Some.ensures.number in
    rw (e.1, e.2)
    (rest_told c.args.problem.now c.args.bytes.now c.in-Some.ensures.line type c.empty.ensures
    c.in_ok-inside.ensures.taken third c.in_ok-outside.ensures.taken
    c.in_ok-outside.ensures.number _ c.in_err-claim.ensures.fault)

pub returns-clause-read : goal.returns-clause-read
returns-clause-read c =
    let type = sym c.is_file_type.ensures ∙ c.if-not-is_file_type.false in
    let third = c.in_ok-inside.ensures.number ∙ ap suc c.in-Some.ensures.number in
    subst (λ (part : Part). PartReads c.args.problem.now c.args.bytes.now (Ok part))
    (sym c.of.ensures)
    (rest_read c.args.problem.now c.args.bytes.now c.in-Some.ensures.line type c.empty.ensures
    c.in_ok-inside.ensures.taken third c.in_ok-outside.ensures.taken
    c.in_ok-outside.ensures.number _ c.in_ok-claim.ensures.read)
