use Rattle.std.proofs.Common.{◌∷◌, [], ap, ◌∙◌, rules}
use Rattle.std.proofs.lemmas.Result.{err_from_is_err_and}
use Rattle.text_lines.specs.edit_rules.Read.{material_read}
use Rattle.edit_scripts.proofs.TokenCounts.{six, not_material, refused}
use Rattle.edit_scripts.proofs.insertion.insert_material.Goals as goal

pub returns-in_err-judge-in-len6 : goal.returns-in_err-judge-in-len6
returns-in_err-judge-in-len6 c =
    let e = err_from_is_err_and c.from_residual.result c.from_residual.ensures.1 in
    rw (e.1, e.2, c.in_err-judge-in-len6.ensures.fault.2)
    (ap material_read (six c.args.fields.now c.in-len6.len_at_least c.in-len6.len_below)
    ∙ refused _ _ _ _
    (λ i. c.place_fault.ensures i ∷ c.name_fault.ensures i ∷ c.kind_fault.ensures i
    ∷ c.amount_fault.ensures i ∷ c.bound_fault.ensures i ∷ c.bound_fault-in-len6.ensures i ∷ [])
    c.in_err-judge-in-len6.ensures.fault.1)

pub returns-in_ok-name_string-in-len6 : goal.returns-in_ok-name_string-in-len6
returns-in_ok-name_string-in-len6 c =
    rw (six c.args.fields.now c.in-len6.len_at_least c.in-len6.len_below) (search rules)

pub returns-in_default : goal.returns-in_default
returns-in_default c = not_material c.args.fields.now (search rules)
