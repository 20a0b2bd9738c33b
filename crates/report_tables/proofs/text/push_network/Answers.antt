use Rattle.std.proofs.Common.{◌++◌, ◌∙◌, ap, ℕ, codes, length, unsigned_abs, string_bytes}
use Rattle.text_lines.specs.number_sets.Sets.{has}
use Rattle.text_lines.specs.problem_rules.Problem.{Problem}
use Rattle.cert_check.specs.flow_rules.Net.{net_of, materials_of}
use Rattle.report_amounts.specs.report_rules.Report.{counted}
use Rattle.report_tables.proofs.Pieces.{after_five}
use Rattle.report_tables.proofs.text.push_network.Goals as goal

pub returns : goal.returns
returns c =
    let p = c.args.site.now in
    let same = c.problem-problem.ensures.same in
    let w = c.args.network.now in
    let t0 = string_bytes c.args.text.now in
    let t1 = string_bytes c.push_counted.new.text in
    let t2 = string_bytes c.push_counted-2.new.text in
    let t3 = string_bytes c.push_counted-3.new.text in
    let t4 = string_bytes c.push_counted-4.new.text in
    after_five t0 t1 t2 t3 t4 (string_bytes c.push_counted-5.new.text)
    (counted (codes "Claimed network: ") (length w.units)) (counted (codes " of ") (length p.units))
    (counted (codes " units, ") (length (materials_of (net_of p) (has w.units))))
    (counted (codes " of ") (length p.materials))
    (counted (codes " materials, payout period ") (unsigned_abs p.payout))
    (c.in_ok-push_counted.ensures
    ∙ ap (λ (n : ℕ). t0 ++ counted (codes "Claimed network: ") n) c.units_in.ensures)
    (c.in_ok-push_counted-2.ensures
    ∙ ap (λ (n : ℕ). t1 ++ counted (codes " of ") n)
    (c.all_units.ensures ∙ ap (λ (p : Problem). length p.units) same))
    (c.in_ok-push_counted-3.ensures
    ∙ ap (λ (n : ℕ). t2 ++ counted (codes " units, ") n) c.materials_count.ensures)
    (c.in_ok-push_counted-4.ensures
    ∙ ap (λ (n : ℕ). t3 ++ counted (codes " of ") n)
    (c.all_materials.ensures ∙ ap (λ (p : Problem). length p.materials) same))
    (c.in_ok-push_counted-5.ensures
    ∙ ap (λ (n : ℕ). t4 ++ counted (codes " materials, payout period ") n)
    (c.years.ensures ∙ ap (λ (p : Problem). unsigned_abs p.payout) same))
