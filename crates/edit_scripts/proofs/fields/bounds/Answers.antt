use Rattle.std.proofs.Common.{◌≡◌, ◌∷◌, [], ℕ, List, Err, ap, refl, ◌∙◌, rules}
use Rattle.std.proofs.lemmas.Result.{err_from_is_err_and}
use Rattle.text_lines.specs.edit_rules.declared.EditKind.TheVariants.{BadLine}
use Rattle.text_lines.specs.edit_rules.Read.{bounds_read}
use Rattle.edit_scripts.proofs.TokenCounts.{three, not_three, refused}
use Rattle.edit_scripts.proofs.fields.bounds.Goals as goal

pub returns-in_err-judge-in-len3-clause-fault : goal.returns-in_err-judge-in-len3-clause-fault
returns-in_err-judge-in-len3-clause-fault c =
    let e = err_from_is_err_and c.from_residual.result c.from_residual.ensures.1 in
    rw (e.1, e.2, c.in_err-judge-in-len3.ensures.fault.2)
    (ap bounds_read (three c.args.fields.now c.in-len3.len_at_least c.in-len3.len_below)
    ∙ refused _ _ _ _
    (λ i. c.name_fault.ensures i ∷ c.bound_fault.ensures i ∷ c.bound_fault-in-len3.ensures i
    ∷ []) c.in_err-judge-in-len3.ensures.fault.1)

pub returns-in_ok-name-in-len3-clause-ok : goal.returns-in_ok-name-in-len3-clause-ok
returns-in_ok-name-in-len3-clause-ok c =
    rw (three c.args.fields.now c.in-len3.len_at_least c.in-len3.len_below) (search rules)

pub returns-in_default-clause-fault : goal.returns-in_default-clause-fault
returns-in_default-clause-fault c =
    not_three c.args.fields.now (λ (fields : List (List ℕ)). bounds_read fields ≡ Err BadLine)
    (search rules) refl (λ x. refl) (λ x y. refl) (λ x y z u rest. refl)
