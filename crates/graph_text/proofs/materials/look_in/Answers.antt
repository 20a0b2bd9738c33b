use Rattle.std.proofs.Common.{◌≡◌, ◌∙◌, ap, sym}
use Rattle.report_amounts.specs.number_sets.Sets.{has}
use Rattle.report_amounts.specs.problem_rules.Problem.{Problem}
use Rattle.report_amounts.specs.pns_rules.Shape.{shape_of}
use Rattle.report_amounts.specs.pns_rules.Structure.{mats}
use Rattle.report_amounts.specs.report_rules.Drawn.{is_material_limited}
use Rattle.report_amounts.specs.report_rules.Graph.{limit_look, grey}
use Rattle.graph_text.proofs.Lines.{if_true}
use Rattle.graph_text.proofs.materials.look_in.Goals as goal

pub returns-then-is_in : goal.returns-then-is_in
returns-then-is_in c =
    let p = c.args.picture.now.problem in
    let w = c.args.network.now in
    let j = c.args.j in
    c.limit_look.ensures
    ∙ ap limit_look (c.is_material_limited.ensures
    ∙ ap (λ (p : Problem). is_material_limited p w j) c.problem.ensures.same)
    ∙ if_true (mats (shape_of p) (has w.units) j) (limit_look (is_material_limited p w j)) grey
    (sym c.is_in.ensures.value ∙ c.if-is_in.true)
