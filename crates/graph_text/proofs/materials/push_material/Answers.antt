use Rattle.std.proofs.Common.{◌≡◌, ◌∙◌, ◌++◌, ap, codes, ℕ, List, string_bytes}
use Rattle.report_amounts.specs.problem_rules.Problem.{Problem, Material, material_at}
use Rattle.report_amounts.proofs.pns_problem.Cited.{after}
use Rattle.report_amounts.specs.report_rules.Drawn.{material_flow}
use Rattle.report_amounts.specs.report_rules.Graph.{node, material_node, material_tip, shape_words}
use Rattle.report_amounts.specs.report_rules.Graph.{drawn_look}
use Rattle.graph_text.proofs.Lines.{node_line_of}
use Rattle.graph_text.proofs.materials.push_material.Goals as goal

pub returns : goal.returns
returns c =
    let d = c.args.picture.now in
    let p = d.problem in
    let j = c.args.j in
    let m = material_at p j in
    let named : c.material_name-name.result.now ≡ m.name =
    c.material_name-name.ensures
    ∙ ap (λ (p : Problem). (material_at p j).name) c.problem-problem.ensures.same in
    let same : c.material_of-material.result.now ≡ m =
    c.material_of-material.ensures
    ∙ ap (λ (p : Problem). material_at p j) c.problem-problem.ensures.same in
    let t1 = string_bytes c.push_str.new.self in
    let t3 = string_bytes c.push_str-2.new.self in
    let t6 = string_bytes c.push_str-4.new.self in
    let t8 = string_bytes c.push_str-5.new.self in
    let t9 = string_bytes c.push_str-6.new.self in
    node_line_of (string_bytes c.args.text.now) t1 (string_bytes c.push_node.new.text) t3
    (string_bytes c.push_str-3.new.self) (string_bytes c.push_flow.new.text) t6
    (string_bytes c.push_tip.new.text) t8 (string_bytes c.push_str-7.new.self)
    (string_bytes c.push_str-8.new.self) (material_node m.name) m.name
    (material_flow p d.network j) (material_tip m)
    (shape_words m.kind ++ drawn_look p d.network j)
    c.in_ok-push_str.ensures.bytes
    (c.in_ok-push_node.ensures ∙ ap (λ (name : List ℕ). t1 ++ node (codes "material") name) named)
    c.in_ok-push_str-2.ensures.bytes
    (c.in_ok-push_str-3.ensures.bytes ∙ ap (λ (name : List ℕ). t3 ++ name) named)
    c.in_ok-push_flow.ensures
    c.in_ok-push_str-4.ensures.bytes
    (c.in_ok-push_tip.ensures ∙ ap (λ (m : Material). t6 ++ material_tip m) same)
    c.in_ok-push_str-5.ensures.bytes
    (after t8 t9 (string_bytes c.push_str-7.new.self) (shape_words m.kind)
    (drawn_look p d.network j)
    (c.in_ok-push_str-6.ensures.bytes
    ∙ ap (λ (t : List ℕ). t8 ++ t)
    (c.shape.ensures ∙ ap (λ (m : Material). shape_words m.kind) (c.material.view_is ∙ same)))
    (c.in_ok-push_str-7.ensures.bytes ∙ ap (λ (t : List ℕ). t9 ++ t) c.drawn_look.ensures))
    c.in_ok-push_str-8.ensures.bytes
