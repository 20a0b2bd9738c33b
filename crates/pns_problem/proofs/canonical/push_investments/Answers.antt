use Rattle.std.proofs.Common.{rules, ◌++◌, ap, ◌∙◌, string_bytes, codes, w64, SFits}
use Rattle.std.proofs.lemmas.Int.{to_z-of_z}
use Rattle.text_rules.specs.Canonical.{field_unless_zero}
use Rattle.pns_problem.specs.Printing.{further_items, unit_investment_fix}
use Rattle.pns_problem.specs.Printing.{unit_investment_proportional}
use Rattle.pns_problem.proofs.PrintingLemmas.{after}
use Rattle.pns_problem.proofs.canonical.push_investments.Goals as goal

pub returns : goal.returns
returns c =
    let x = c.unit.inside in
    let old = string_bytes c.args.text.now in
    let t1 = string_bytes c.push_further_unless_zero.new.text in
    let t2 = string_bytes c.push_further_unless_zero-2.new.text in
    let a : SFits w64 x.investment_fix = search rules in
    let b : SFits w64 x.investment_proportional = search rules in
    after old t1 t2
    (further_items (field_unless_zero (codes "investment_fix_cost") x.investment_fix))
    (further_items
    (field_unless_zero (codes "investment_proportional_cost") x.investment_proportional))
    (c.in_ok-push_further_unless_zero.ensures
    ∙ ap (λ z. old ++ further_items (field_unless_zero (codes "investment_fix_cost") z))
    (to_z-of_z w64 x.investment_fix a))
    (c.in_ok-push_further_unless_zero-2.ensures
    ∙ ap (λ z. t1 ++ further_items (field_unless_zero (codes "investment_proportional_cost") z))
    (to_z-of_z w64 x.investment_proportional b))
    ∙ ap
    (λ y. old
    ++ (further_items (unit_investment_fix y)
    ++ further_items (unit_investment_proportional y))) c.unit.view_is
