use Rattle.std.proofs.Common.{rules, ◌++◌, [], ap, ◌∙◌, string_bytes, codes, w64, SFits}
use Rattle.std.proofs.lemmas.Int.{to_z-of_z}
use Rattle.text_rules.specs.Printed.{amount_bytes}
use Rattle.text_rules.specs.Canonical.{field, named}
use Rattle.text_rules.specs.problem_rules.Problem.{OperatingUnit}
use Rattle.pns_problem.specs.Printing.{unit_amounts, unit_investment_fix}
use Rattle.pns_problem.specs.Printing.{unit_investment_proportional}
use Rattle.pns_problem.proofs.PrintingLemmas.{line_of_parts}
use Rattle.pns_problem.proofs.canonical.push_unit.Goals as goal

pub returns : goal.returns
returns c =
    let u = c.args.unit.now in
    let x = c.unit.inside in
    let v = c.unit.view_is in
    let old = string_bytes c.args.text.now in
    let t1 = string_bytes c.push_name.new.text in
    let a : SFits w64 x.lower = search rules in
    line_of_parts old t1 (string_bytes c.push_field.new.text)
    (string_bytes c.push_unit_amounts.new.text) (string_bytes c.push_investments.new.text)
    u.name (field (codes "capacity_lower_bound") (amount_bytes u.lower)) (unit_amounts u)
    (unit_investment_fix u) (unit_investment_proportional u)
    (c.in_ok-push_name.ensures
    ∙ ap (λ n. old ++ named n []) (c.deref.ensures ∙ ap (λ (u : OperatingUnit). u.name) v))
    (c.in_ok-push_field.ensures
    ∙ ap (λ z. t1 ++ field (codes "capacity_lower_bound") (amount_bytes z))
    (to_z-of_z w64 x.lower a ∙ ap (λ (u : OperatingUnit). u.lower) v))
    c.in_ok-push_unit_amounts.ensures
    c.in_ok-push_investments.ensures
