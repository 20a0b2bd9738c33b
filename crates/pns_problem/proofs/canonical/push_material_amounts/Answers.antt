use Rattle.std.proofs.Common.{rules, ◌++◌, ap, ◌∙◌, string_bytes, codes, w64, SFits}
use Rattle.std.proofs.lemmas.Int.{to_z-of_z}
use Rattle.text_rules.specs.Printed.{amount_bytes}
use Rattle.text_rules.specs.Canonical.{field}
use Rattle.pns_problem.specs.Printing.{further, further_items, material_amounts}
use Rattle.pns_problem.proofs.PrintingLemmas.{three_further}
use Rattle.pns_problem.proofs.canonical.push_material_amounts.Goals as goal

pub returns : goal.returns
returns c =
    let x = c.material.inside in
    let old = string_bytes c.args.text.now in
    let t1 = string_bytes c.push_further.new.text in
    let t2 = string_bytes c.push_further-2.new.text in
    let t3 = string_bytes c.push_further-3.new.text in
    let a : SFits w64 x.price = search rules in
    let b : SFits w64 x.lower = search rules in
    let d : SFits w64 x.upper = search rules in
    three_further old t1 t2 t3 (field (codes "price") (amount_bytes x.price))
    (field (codes "flow_rate_lower_bound") (amount_bytes x.lower))
    (field (codes "flow_rate_upper_bound") (amount_bytes x.upper))
    (c.in_ok-push_further.ensures
    ∙ ap (λ z. old ++ further (field (codes "price") (amount_bytes z)))
    (to_z-of_z w64 x.price a))
    (c.in_ok-push_further-2.ensures
    ∙ ap (λ z. t1 ++ further (field (codes "flow_rate_lower_bound") (amount_bytes z)))
    (to_z-of_z w64 x.lower b))
    (c.in_ok-push_further-3.ensures
    ∙ ap (λ z. t2 ++ further (field (codes "flow_rate_upper_bound") (amount_bytes z)))
    (to_z-of_z w64 x.upper d))
    ∙ ap (λ y. old ++ further_items (material_amounts y)) c.material.view_is
