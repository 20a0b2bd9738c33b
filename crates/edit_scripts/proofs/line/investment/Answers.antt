use Rattle.std.proofs.Common.{◌≡◌, ◌∷◌, [], ℕ, List, Err, ap, refl, ◌∙◌, rules}
use Rattle.std.proofs.lemmas.Result.{err_from_is_err_and}
use Rattle.text_lines.specs.edit_rules.declared.EditKind.TheVariants.{BadLine}
use Rattle.text_lines.specs.edit_rules.Read.{edit_by, costs_read}
use Rattle.text_lines.specs.edit_rules.Edit as edit
use Rattle.edit_scripts.proofs.TokenCounts.{three, not_three, refused}
use Rattle.edit_scripts.proofs.line.investment.Goals as goal

pub returns-in_err-judge-in-len3 : goal.returns-in_err-judge-in-len3
returns-in_err-judge-in-len3 c =
    let e = err_from_is_err_and c.from_residual.result c.from_residual.ensures.1 in
    rw (e.1, e.2, c.in_err-judge-in-len3.ensures.fault.2)
    (ap (edit_by (λ read. edit.investment read.0 read.1.0 read.1.1))
    (ap costs_read (three c.args.fields.now c.in-len3.len_at_least c.in-len3.len_below)
    ∙ refused _ _ _ _
    (λ i. c.name_fault.ensures i ∷ c.bound_fault.ensures i ∷ c.amount_fault.ensures i ∷ [])
    c.in_err-judge-in-len3.ensures.fault.1))

pub returns-in_ok-name_string-in-len3 : goal.returns-in_ok-name_string-in-len3
returns-in_ok-name_string-in-len3 c =
    rw (three c.args.fields.now c.in-len3.len_at_least c.in-len3.len_below) (search rules)

pub returns-in_default : goal.returns-in_default
returns-in_default c =
    not_three c.args.fields.now
    (λ (fields : List (List ℕ)). edit_by (λ read. edit.investment read.0 read.1.0 read.1.1)
    (costs_read fields) ≡ Err BadLine) (search rules) refl (λ x. refl) (λ x y. refl)
    (λ x y z u rest. refl)
