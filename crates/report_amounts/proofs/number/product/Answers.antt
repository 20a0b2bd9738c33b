use Rattle.std.proofs.Common.{◌∙◌, sym, ap, refl, ◌*ℤ◌}
use Rattle.report_rules.proofs.integer_laws.Cited.{mul_pos}
use Rattle.report_rules.specs.Number.{kept}
use Rattle.report_amounts.proofs.Fractions.{lowest_is, kept_in_range, kept_past}
use Rattle.report_amounts.proofs.number.product.Goals as goal

pub returns-in-Ok : goal.returns-in-Ok
returns-in-Ok c =
    let l = c.args.left.now in
    let r = c.args.right.now in
    let f = c.in-Ok.product in
    sym (ap kept
    (lowest_is (l.num *ℤ r.num) (l.den *ℤ r.den) f.num f.den
    (mul_pos l.den r.den l.positive r.positive) c.in-Ok.ensures.value)
    ∙ kept_in_range (record { num = f.num; den = f.den }) f.num_in_range f.den_in_range)

pub returns-in-Err : goal.returns-in-Err
returns-in-Err c =
    let l = c.args.left.now in
    let r = c.args.right.now in
    c.past.ensures
    ∙ sym
    (kept_past (l.num *ℤ r.num) (l.den *ℤ r.den) (mul_pos l.den r.den l.positive r.positive)
    (c.in-Err.ensures.past.0 refl))
