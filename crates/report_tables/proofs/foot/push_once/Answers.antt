use Rattle.std.proofs.Common.{◌++◌, ◌∙◌, ap, codes, string_bytes}
use Rattle.report_amounts.specs.report_rules.Number.{Number}
use Rattle.report_amounts.specs.report_rules.declared.amount.UnitAmount.TheVariants.{Once}
use Rattle.report_amounts.specs.report_rules.Amounts.{unit_sum}
use Rattle.report_amounts.specs.report_rules.Report.{number_cell}
use Rattle.report_tables.proofs.Pieces.{after}
use Rattle.report_tables.proofs.foot.push_once.Goals as goal

pub returns : goal.returns
returns c =
    let t1 = string_bytes c.push_str.new.self in
    after (string_bytes c.args.text.now) t1 (string_bytes c.push_digits.new.text)
    (codes "Investment, paid once: ")
    (number_cell (unit_sum Once c.args.problem.now c.args.network.now))
    c.in_ok-push_str.ensures.bytes
    (c.in_ok-push_digits.ensures ∙ ap (λ (n : Number). t1 ++ number_cell n) c.unit_sum.ensures)
