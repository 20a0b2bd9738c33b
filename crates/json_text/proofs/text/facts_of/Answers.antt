use Rattle.std.proofs.Common.{◌<◌, ◌++◌, ◌∙◌, sym, ap, subst, length}
use Rattle.report_rules.specs.problem_rules.Problem.{Problem}
use Rattle.tree_reading.specs.pns_problem.Printing.{printed}
use Rattle.report_rules.specs.Facts.{head_lines, unit_lines, material_lines, foot_lines}
use Rattle.json_text.proofs.Pieces.{four_blocks}
use Rattle.json_text.proofs.text.facts_of.Goals as goal

pub push_head-requires : goal.push_head-requires
push_head-requires c = record { known = c.requires.feasible.structure.s3 }

pub push_units-requires : goal.push_units-requires
push_units-requires c u h =
    subst (λ (p : Problem). u < length p.units) (sym c.problem-problem.ensures.same)
    (c.requires.feasible.structure.s3 u h)

pub returns : goal.returns
returns c =
    let p = c.args.site.now in
    let w = c.args.network.now in
    let m = c.args.marginals.now in
    four_blocks c.new-text.result.items c.push_head.new.text.items c.push_units.new.text.items
    c.push_materials.new.text.items c.push_foot.new.text.items
    (head_lines c.args.head.now p w) (unit_lines p w m) (material_lines p w m) (foot_lines p w)
    c.in_ok-push_head.ensures
    (c.in_ok-push_units.ensures
    ∙ ap (λ (p : Problem). c.push_head.new.text.items ++ printed (unit_lines p w m))
    c.problem-problem.ensures.same)
    c.in_ok-push_materials.ensures c.in_ok-push_foot.ensures
    ∙ ap
    (λ t. t
    ++ printed
    (head_lines c.args.head.now p w
    ++ (unit_lines p w m ++ (material_lines p w m ++ foot_lines p w)))) c.new-text.ensures.items
