use Rattle.std.proofs.Common.{◌≡◌, ◌∷◌, [], ◌∙◌, ap, ℕ, List, codes, length}
use Rattle.report_rules.specs.number_sets.Sets.{has}
use Rattle.report_rules.specs.problem_rules.Problem.{Problem}
use Rattle.report_rules.specs.flow_rules.Net.{net_of, materials_of}
use Rattle.report_rules.specs.Json.{member, object}
use Rattle.report_rules.specs.Facts.{count_member}
use Rattle.json_text.proofs.head.counts_member.Goals as goal

pub returns : goal.returns
returns c =
    let p = c.args.site.now in
    let w = c.args.network.now in
    let same = c.problem-problem.ensures.same in
    let units : c.in_ok-units.units ≡ count_member (codes "units") (length w.units) =
    c.in_ok-units.ensures ∙ ap (λ (n : ℕ). count_member (codes "units") n) c.units_in.ensures in
    let of_units : c.in_ok-of_units.of_units ≡ count_member (codes "all_units") (length p.units) =
    c.in_ok-of_units.ensures
    ∙ ap (λ (n : ℕ). count_member (codes "all_units") n)
    (c.all_units.ensures ∙ ap (λ (p : Problem). length p.units) same) in
    let materials : c.in_ok-materials.materials
    ≡ count_member (codes "materials") (length (materials_of (net_of p) (has w.units))) =
    c.in_ok-materials.ensures
    ∙ ap (λ (n : ℕ). count_member (codes "materials") n) c.materials_count.ensures in
    let of_materials : c.in_ok-of_materials.of_materials
    ≡ count_member (codes "all_materials") (length p.materials) =
    c.in_ok-of_materials.ensures
    ∙ ap (λ (n : ℕ). count_member (codes "all_materials") n)
    (c.all_materials.ensures ∙ ap (λ (p : Problem). length p.materials) same) in
    c.in_ok-member.ensures ∙ ap (λ (v : List ℕ). member (codes "counts") v)
    (c.in_ok-counts.ensures
    ∙ (λ i. object (units i ∷ of_units i ∷ materials i ∷ of_materials i ∷ [])))
