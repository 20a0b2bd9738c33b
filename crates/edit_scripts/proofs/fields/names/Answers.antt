use Rattle.std.proofs.Common.{◌≡◌, ◌∷◌, [], ℕ, List, Err, ap, refl, ◌∙◌, rules}
use Rattle.std.proofs.lemmas.Result.{err_from_is_err_and}
use Rattle.text_lines.specs.edit_rules.declared.EditKind.TheVariants.{BadLine}
use Rattle.text_lines.specs.edit_rules.Read.{names_read}
use Rattle.edit_scripts.proofs.TokenCounts.{two, not_two, refused}
use Rattle.edit_scripts.proofs.fields.names.Goals as goal

pub returns-in_err-judge-in-len2 : goal.returns-in_err-judge-in-len2
returns-in_err-judge-in-len2 c =
    let e = err_from_is_err_and c.from_residual.result c.from_residual.ensures.1 in
    rw (e.1, e.2, c.in_err-judge-in-len2.ensures.fault.2)
    (ap names_read (two c.args.fields.now c.in-len2.len_at_least c.in-len2.len_below)
    ∙ refused _ _ _ _ (λ i. c.name_fault.ensures i ∷ c.name_fault-in-len2.ensures i ∷ [])
    c.in_err-judge-in-len2.ensures.fault.1)

pub returns-in_ok-name_string-in-len2-2 : goal.returns-in_ok-name_string-in-len2-2
returns-in_ok-name_string-in-len2-2 c =
    rw (two c.args.fields.now c.in-len2.len_at_least c.in-len2.len_below) (search rules)

pub returns-in_default : goal.returns-in_default
returns-in_default c =
    not_two c.args.fields.now (λ (fields : List (List ℕ)). names_read fields ≡ Err BadLine)
    (search rules) refl (λ x. refl) (λ x y z rest. refl)
