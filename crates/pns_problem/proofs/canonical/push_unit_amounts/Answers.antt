use Rattle.std.proofs.Common.{rules, ◌++◌, ap, ◌∙◌, string_bytes, codes, w64, SFits}
use Rattle.std.proofs.lemmas.Int.{to_z-of_z}
use Rattle.text_rules.specs.Printed.{amount_bytes}
use Rattle.text_rules.specs.Canonical.{field}
use Rattle.pns_problem.specs.Printing.{further, further_items, unit_amounts}
use Rattle.pns_problem.proofs.PrintingLemmas.{three_further}
use Rattle.pns_problem.proofs.canonical.push_unit_amounts.Goals as goal

pub returns : goal.returns
returns c =
    let x = c.unit.inside in
    let old = string_bytes c.args.text.now in
    let t1 = string_bytes c.push_further.new.text in
    let t2 = string_bytes c.push_further-2.new.text in
    let t3 = string_bytes c.push_further-3.new.text in
    let a : SFits w64 x.upper = search rules in
    let b : SFits w64 x.fix = search rules in
    let d : SFits w64 x.proportional = search rules in
    three_further old t1 t2 t3 (field (codes "capacity_upper_bound") (amount_bytes x.upper))
    (field (codes "fix_cost") (amount_bytes x.fix))
    (field (codes "proportional_cost") (amount_bytes x.proportional))
    (c.in_ok-push_further.ensures
    ∙ ap (λ z. old ++ further (field (codes "capacity_upper_bound") (amount_bytes z)))
    (to_z-of_z w64 x.upper a))
    (c.in_ok-push_further-2.ensures
    ∙ ap (λ z. t1 ++ further (field (codes "fix_cost") (amount_bytes z)))
    (to_z-of_z w64 x.fix b))
    (c.in_ok-push_further-3.ensures
    ∙ ap (λ z. t2 ++ further (field (codes "proportional_cost") (amount_bytes z)))
    (to_z-of_z w64 x.proportional d))
    ∙ ap (λ y. old ++ further_items (unit_amounts y)) c.unit.view_is
