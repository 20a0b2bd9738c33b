use Rattle.std.proofs.Common.{◌∙◌, sym, refl, true≢false}
use Rattle.report_rules.proofs.integer_laws.Cited.{mul_pos}
use Rattle.report_rules.specs.Number.{Fraction}
use Rattle.report_amounts.proofs.Fractions.{sum_kept, sum_past}
use Rattle.report_amounts.proofs.number.sum.Goals as goal

pub returns-in-Ok : goal.returns-in-Ok
returns-in-Ok c =
    let l = c.args.left.now in
    let r = c.args.right.now in
    let f = c.in-Ok.sum in
    let x : Fraction = record { num = l.num; den = l.den } in
    let y : Fraction = record { num = r.num; den = r.den } in
    sym (sum_kept x y r.positive (mul_pos l.den r.den l.positive r.positive)
    (record { num = f.num; den = f.den }) c.in-Ok.ensures.value
    (λ past. true≢false (sym (c.in-Ok.ensures.past.1 past))))

pub returns-in-Err : goal.returns-in-Err
returns-in-Err c =
    let l = c.args.left.now in
    let r = c.args.right.now in
    let x : Fraction = record { num = l.num; den = l.den } in
    let y : Fraction = record { num = r.num; den = r.den } in
    c.past.ensures ∙ sym (sum_past x y r.positive (c.in-Err.ensures.past.0 refl))
