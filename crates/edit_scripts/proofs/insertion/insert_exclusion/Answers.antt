use Rattle.std.proofs.Common.{◌∷◌, [], ◌∙◌, rules}
use Rattle.std.proofs.lemmas.Result.{err_from_is_err_and}
use Rattle.edit_scripts.proofs.TokenCounts.{exclusion_at, not_exclusion, refused}
use Rattle.edit_scripts.proofs.insertion.insert_exclusion.Goals as goal

pub returns-in_err-judge-in-len4-up : goal.returns-in_err-judge-in-len4-up
returns-in_err-judge-in-len4-up c =
    let e =
    err_from_is_err_and c.from_residual-in_err-judge-in-len4-up.result
    c.from_residual-in_err-judge-in-len4-up.ensures.1 in
    rw (e.1, e.2, c.in_err-judge-in-len4-up.ensures.fault.2)
    (exclusion_at c.args.fields.now c.in-len4-up.len_at_least
    ∙ refused _ _ _ _
    (λ i. c.place_fault.ensures i ∷ c.name_fault.ensures i ∷ c.names_fault.ensures i
    ∷ c.in_ok-members-in-len4-up.ensures i ∷ []) c.in_err-judge-in-len4-up.ensures.fault.1)

pub returns-in_ok-name_strings-in-len4-up : goal.returns-in_ok-name_strings-in-len4-up
returns-in_ok-name_strings-in-len4-up c =
    rw (exclusion_at c.args.fields.now c.in-len4-up.len_at_least) (search rules)

pub returns-in_default : goal.returns-in_default
returns-in_default c = not_exclusion c.args.fields.now (search rules)
