use Rattle.std.proofs.Common.{◌≡◌, ◌∙◌, ◌++◌, ◌∷◌, [], ap, codes, ℕ, List, string_bytes}
use Rattle.report_amounts.specs.problem_rules.Problem.{Problem, Material, Kind, unit_at}
use Rattle.report_amounts.specs.problem_rules.Problem.{material_at}
use Rattle.report_amounts.proofs.pns_problem.Cited.{after}
use Rattle.report_amounts.specs.report_rules.Graph.{use_node, use_look}
use Rattle.graph_text.specs.Kept.{picture_of}
use Rattle.graph_text.proofs.Lines.{after_four}
use Rattle.graph_text.proofs.arcs.push_use.Goals as goal

pub returns : goal.returns
returns c =
    let d = picture_of c.args.picture.now in
    let p = d.problem in
    let u = c.args.u in
    let j = c.args.j in
    let m = material_at p j in
    let old = string_bytes c.args.text.now in
    let t1 = string_bytes c.push_str.new.self in
    let t2 = string_bytes c.push_use_node.new.text in
    let t3 = string_bytes c.push_str-2.new.self in
    let t4 = string_bytes c.push_str-3.new.self in
    let t5 = string_bytes c.push_str-4.new.self in
    let t6 = string_bytes c.push_use_look.new.text in
    let t7 = string_bytes c.push_str-5.new.self in
    let material : c.material_name-name.result.now ≡ m.name =
    c.material_name-name.ensures
    ∙ ap (λ (p : Problem). (material_at p j).name) c.problem-problem.ensures.same in
    let unit : c.unit_name.result.now ≡ (unit_at p u).name =
    c.unit_name.ensures
    ∙ ap (λ (p : Problem). (unit_at p u).name) c.problem-problem.ensures.same in
    let same : c.material_of-material.result.now ≡ m =
    c.material_of-material.ensures
    ∙ ap (λ (p : Problem). material_at p j) c.problem-problem.ensures.same in
    let which = use_node m.name (unit_at p u).name in
    let opened = codes " [label=\"" in
    let small = codes "\", fontsize=9, " in
    let look = use_look d u m.kind in
    after old t1 t7 (32 ∷ 32 ∷ [])
    (which ++ (opened ++ (m.name ++ (small ++ (look ++ 93 ∷ 59 ∷ [])))))
    c.in_ok-push_str.ensures.bytes
    (after t1 t2 t7 which (opened ++ (m.name ++ (small ++ (look ++ 93 ∷ 59 ∷ []))))
    (c.in_ok-push_use_node.ensures ∙ (λ i. t1 ++ use_node (material i) (unit i)))
    (after t2 t3 t7 opened (m.name ++ (small ++ (look ++ 93 ∷ 59 ∷ [])))
    c.in_ok-push_str-2.ensures.bytes
    (after_four t3 t4 t5 t6 t7 m.name small look (93 ∷ 59 ∷ [])
    (c.in_ok-push_str-3.ensures.bytes ∙ ap (λ (name : List ℕ). t3 ++ name) material)
    c.in_ok-push_str-4.ensures.bytes
    (c.in_ok-push_use_look.ensures
    ∙ ap (λ (x : Material). t5 ++ use_look d u x.kind) (c.material.view_is ∙ same))
    c.in_ok-push_str-5.ensures.bytes)))
