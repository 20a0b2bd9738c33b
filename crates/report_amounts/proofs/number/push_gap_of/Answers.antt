use Rattle.std.proofs.Common.{◌++◌, ◌∙◌, ap, ℕ, codes, string_bytes}
use Rattle.flow_evaluator.proofs.pns_problem.Cited.{after}
use Rattle.report_rules.specs.Lower.{rounded_up, tenths_text}
use Rattle.report_amounts.proofs.number.push_gap_of.Goals as goal

pub returns : goal.returns
returns c =
    let t1 = string_bytes c.push_str.new.self in
    let t2 = string_bytes c.push_tenths.new.text in
    let t3 = string_bytes c.push_str-2.new.self in
    let f = c.args.fraction.now in
    let tenths = tenths_text (rounded_up (record { num = f.num; den = f.den })) in
    after (string_bytes c.args.text.now) t1 t3 (codes " (gap ") (tenths ++ codes " %)")
    c.in_ok-push_str.ensures.bytes
    (after t1 t2 t3 tenths (codes " %)")
    (c.in_ok-push_tenths.ensures
    ∙ ap (λ (n : ℕ). t1 ++ tenths_text n) c.rounded_up.ensures) c.in_ok-push_str-2.ensures.bytes)
