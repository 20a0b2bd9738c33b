use Rattle.std.proofs.Common.{None, Some, ap, sym, ◌∙◌}
use Rattle.edit_rules.specs.text_rules.Amount.{has_minus, with_sign}
use Rattle.text_lines.proofs.Fronts.{amount_off, amount_on}
use Rattle.text_lines.proofs.amount.size_of.Goals as goal

pub returns-then-front-lt1-clause-value : goal.returns-then-front-lt1-clause-value
returns-then-front-lt1-clause-value c =
    amount_off c.args.text.now c.without_sign.result.now c.front_of-front.result
    c.without_sign.ensures c.front_of-front.ensures c.then-front-lt1.either

pub returns-in-None-clause-value : goal.returns-in-None-clause-value
returns-in-None-clause-value c =
    amount_on c.args.text.now c.without_sign.result.now c.front_of-front.result
    c.without_sign.ensures c.front_of-front.ensures None c.if-front-lt1.false c.if-front-gt30.false
    c.in-None.ensures

pub returns-in-Some-clause-value : goal.returns-in-Some-clause-value
returns-in-Some-clause-value c =
    amount_on c.args.text.now c.without_sign.result.now c.front_of-front.result
    c.without_sign.ensures c.front_of-front.ensures (Some (c.in-Some.up, c.in-Some.down))
    c.if-front-lt1.false c.if-front-gt30.false c.in-Some.ensures
    ∙ ap (with_sign (has_minus c.args.text.now)) (sym c.scaled.ensures)
