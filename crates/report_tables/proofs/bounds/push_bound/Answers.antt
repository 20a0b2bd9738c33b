use Rattle.std.proofs.Common.{◌++◌, ◌∙◌, ap, ℕ, List, codes, string_bytes, arith, SFits}
use Rattle.std.proofs.Common.{rules}
use Rattle.std.specs.Int.{w128}
use Rattle.std.proofs.lemmas.Int.{to_z-of_z}
use Rattle.cert_check.specs.flow_rules.Net.{million}
use Rattle.report_amounts.specs.report_rules.Number.{Number, number_text}
use Rattle.report_amounts.specs.report_rules.Amounts.{quotient}
use Rattle.report_tables.proofs.Appended.{five_pieces}
use Rattle.report_tables.proofs.bounds.push_bound.Goals as goal

pub returns : goal.returns
returns c =
    let f : SFits w128 c.args.bound = search rules in
    let number = simp to_z-of_z at c.quotient.ensures in
    let t1 = string_bytes c.push_str.new.self in
    let t2 = string_bytes c.push_str-2.new.self in
    let t3 = string_bytes c.push_str-3.new.self in
    let t4 = string_bytes c.push.new.text in
    five_pieces (string_bytes c.args.text.now) t1 t2 t3 t4 (string_bytes c.push-2.new.self)
    (codes "  ") c.args.name.now c.args.words.now (number_text (quotient c.args.bound million))
    c.in_ok-push_str.ensures.bytes c.in_ok-push_str-2.ensures.bytes c.in_ok-push_str-3.ensures.bytes
    (c.in_ok-push.ensures ∙ ap (λ (n : Number). t3 ++ number_text n) number)
    (c.in_ok-push-2.ensures.bytes
    ∙ ap (λ (t : List ℕ). t4 ++ t) (c.in_ok-push-2.ensures.ascii (omega arith)))
