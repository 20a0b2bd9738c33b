use Rattle.std.proofs.Common.{◌++◌, map, string_bytes, ap, ◌∙◌, w64, SFits, rules}
use Rattle.std.proofs.lemmas.Int.{to_z-of_z}
use Rattle.text_rules.specs.problem_rules.Problem.{Problem, material_names, unit_names}
use Rattle.text_rules.specs.Canonical.{payout_lines, exclusion_section}
use Rattle.pns_problem.specs.Printing.{printed, material_line, unit_line, rates_line}
use Rattle.pns_problem.specs.Printing.{exclusion_line}
use Rattle.pns_problem.proofs.CanonicalLemmas.{sections_printed, units_fit, exclusions_fit}
use Rattle.pns_problem.proofs.canonical.push_problem.Goals as goal

pub push_rates_lines-requires : goal.push_rates_lines-requires
push_rates_lines-requires c =
    let p = c.args.parts.now in
    let v = c.parts.view_is in
    rw (
      c.deref-3.ensures.value ∙ ap (λ (p : Problem). p.materials) v,
      c.deref-4.ensures.value
          ∙ ap (λ (p : Problem). p.units) v,
    ) (units_fit p c.requires)

pub push_exclusion_section-requires : goal.push_exclusion_section-requires
push_exclusion_section-requires c =
    let p = c.args.parts.now in
    let v = c.parts.view_is in
    rw (
      c.deref-5.ensures.value ∙ ap (λ (p : Problem). p.units) v,
      c.deref-6.ensures.value
          ∙ ap (λ (p : Problem). p.exclusions) v,
    ) (exclusions_fit p c.requires)

pub returns : goal.returns
returns c =
    let p = c.args.parts.now in
    let v = c.parts.view_is in
    let years : SFits w64 c.parts.inside.payout = search rules in
    let t1 = string_bytes c.push_str.new.self in
    let t2 = string_bytes c.push_payout.new.text in
    let t3 = string_bytes c.push_str-2.new.self in
    let t4 = string_bytes c.push_material_lines.new.text in
    let t5 = string_bytes c.push_str-3.new.self in
    let t6 = string_bytes c.push_unit_lines.new.text in
    let t7 = string_bytes c.push_str-4.new.self in
    let t8 = string_bytes c.push_rates_lines.new.text in
    let materials = c.deref.ensures.value ∙ ap (λ (p : Problem). p.materials) v in
    let units = c.deref-2.ensures.value ∙ ap (λ (p : Problem). p.units) v in
    let materials' = c.deref-3.ensures.value ∙ ap (λ (p : Problem). p.materials) v in
    let units' = c.deref-4.ensures.value ∙ ap (λ (p : Problem). p.units) v in
    let members = c.deref-5.ensures.value ∙ ap (λ (p : Problem). p.units) v in
    let exclusions = c.deref-6.ensures.value ∙ ap (λ (p : Problem). p.exclusions) v in
    sections_printed p (string_bytes c.args.text.now) t1 t2 t3 t4 t5 t6 t7 t8
    (string_bytes c.push_exclusion_section.new.text)
    c.in_ok-push_str.ensures.bytes
    (c.in_ok-push_payout.ensures
    ∙ ap (λ z. t1 ++ printed (payout_lines z))
    (to_z-of_z w64 c.parts.inside.payout years ∙ ap (λ (p : Problem). p.payout) v))
    c.in_ok-push_str-2.ensures.bytes
    (c.in_ok-push_material_lines.ensures
    ∙ ap (λ ms. t3 ++ printed (map material_line ms)) materials)
    c.in_ok-push_str-3.ensures.bytes
    (c.in_ok-push_unit_lines.ensures ∙ ap (λ us. t5 ++ printed (map unit_line us)) units)
    c.in_ok-push_str-4.ensures.bytes
    (c.in_ok-push_rates_lines.ensures
    ∙ (λ i. t7 ++ printed (map (rates_line (material_names (materials' i))) (units' i))))
    (c.in_ok-push_exclusion_section.ensures
    ∙ (λ i. t8
    ++ printed
    (exclusion_section (map (exclusion_line (unit_names (members i))) (exclusions i)))))
