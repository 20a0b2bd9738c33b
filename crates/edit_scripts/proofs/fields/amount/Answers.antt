use Rattle.std.proofs.Common.{◌≡◌, ◌∷◌, [], ℕ, List, Err, ap, refl, ◌∙◌, rules}
use Rattle.std.proofs.lemmas.Result.{err_from_is_err_and}
use Rattle.text_lines.specs.edit_rules.declared.EditKind.TheVariants.{BadLine}
use Rattle.text_lines.specs.edit_rules.Read.{amount_read}
use Rattle.edit_scripts.proofs.TokenCounts.{two, not_two, refused}
use Rattle.edit_scripts.proofs.fields.amount.Goals as goal

pub returns-in_err-judge-in-len2-clause-fault : goal.returns-in_err-judge-in-len2-clause-fault
returns-in_err-judge-in-len2-clause-fault c =
    let e = err_from_is_err_and c.from_residual.result c.from_residual.ensures.1 in
    rw (e.1, e.2, c.in_err-judge-in-len2.ensures.fault.2)
    (ap amount_read (two c.args.fields.now c.in-len2.len_at_least c.in-len2.len_below)
    ∙ refused _ _ _ _ (λ i. c.name_fault.ensures i ∷ c.amount_fault.ensures i ∷ [])
    c.in_err-judge-in-len2.ensures.fault.1)

pub returns-in_ok-name_text-in-len2-clause-ok : goal.returns-in_ok-name_text-in-len2-clause-ok
returns-in_ok-name_text-in-len2-clause-ok c =
    rw (two c.args.fields.now c.in-len2.len_at_least c.in-len2.len_below) (search rules)

pub returns-in_default-clause-fault : goal.returns-in_default-clause-fault
returns-in_default-clause-fault c =
    not_two c.args.fields.now (λ (fields : List (List ℕ)). amount_read fields ≡ Err BadLine)
    (search rules) refl (λ x. refl) (λ x y z rest. refl)
