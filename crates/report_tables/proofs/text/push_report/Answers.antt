use Rattle.std.proofs.Common.{◌<◌, ◌++◌, ◌∙◌, sym, ap, subst, length, string_bytes}
use Rattle.text_lines.specs.problem_rules.Problem.{Problem}
use Rattle.cert_check.specs.pns_problem.Printing.{printed}
use Rattle.report_amounts.specs.report_rules.Report.{head_lines, unit_lines, material_lines}
use Rattle.report_amounts.specs.report_rules.Report.{money_lines}
use Rattle.report_amounts.specs.report_rules.Report.{foot_lines}
use Rattle.report_tables.proofs.Pieces.{parts_printed}
use Rattle.report_tables.proofs.text.push_report.Goals as goal

pub push_head-requires : goal.push_head-requires
push_head-requires c = record { known = c.requires.feasible.structure.s3 }

pub push_units-requires : goal.push_units-requires
push_units-requires c = record { known = c.requires.feasible.structure.s3 }

pub push_foot-requires : goal.push_foot-requires
push_foot-requires c u h =
    subst (λ (p : Problem). u < length p.units) (sym c.problem.ensures.same)
    (c.requires.feasible.structure.s3 u h)

pub returns : goal.returns
returns c =
    let p = c.args.plant.now.site.now in
    let ms = c.args.plant.now.measures.now in
    let w = c.args.network.now in
    let m = c.args.marginals.now in
    parts_printed (head_lines ms p w) (unit_lines ms p w m) (material_lines ms p w m)
    (money_lines ms p w)
    (foot_lines p w) (string_bytes c.args.text.now) (string_bytes c.push_head.new.text)
    (string_bytes c.push_units.new.text) (string_bytes c.push_materials.new.text)
    (string_bytes c.push_money.new.text) (string_bytes c.push_foot.new.text)
    c.in_ok-push_head.ensures c.in_ok-push_units.ensures
    c.in_ok-push_materials.ensures c.in_ok-push_money.ensures
    (c.in_ok-push_foot.ensures
    ∙ ap (λ (p : Problem). string_bytes c.push_money.new.text ++ printed (foot_lines p w))
    c.problem.ensures.same)
