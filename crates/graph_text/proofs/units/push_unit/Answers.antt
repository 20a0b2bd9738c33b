use Rattle.std.proofs.Common.{◌≡◌, ◌∙◌, ◌++◌, ap, codes, ℕ, List, string_bytes}
use Rattle.report_amounts.specs.problem_rules.Problem.{Problem, OperatingUnit, unit_at}
use Rattle.report_amounts.specs.report_rules.declared.role.Role.{Role}
use Rattle.report_amounts.specs.report_rules.Drawn.{unit_size, role_of}
use Rattle.report_amounts.specs.report_rules.Graph.{node, unit_node, unit_tip, look_words}
use Rattle.graph_text.proofs.Lines.{node_line_of}
use Rattle.graph_text.proofs.units.push_unit.Goals as goal

pub returns : goal.returns
returns c =
    let d = c.args.picture.now in
    let p = d.problem in
    let u = c.args.u in
    let it = unit_at p u in
    let named : c.unit_name-name.result.now ≡ it.name =
    c.unit_name-name.ensures
    ∙ ap (λ (p : Problem). (unit_at p u).name) c.problem-problem.ensures.same in
    let same : c.unit_of-unit.result.now ≡ it =
    c.unit_of-unit.ensures ∙ ap (λ (p : Problem). unit_at p u) c.problem-problem.ensures.same in
    let t1 = string_bytes c.push_str.new.self in
    let t3 = string_bytes c.push_str-2.new.self in
    let t6 = string_bytes c.push_str-4.new.self in
    let t8 = string_bytes c.push_str-5.new.self in
    node_line_of (string_bytes c.args.text.now) t1 (string_bytes c.push_node.new.text) t3
    (string_bytes c.push_str-3.new.self) (string_bytes c.push_size.new.text) t6
    (string_bytes c.push_tip.new.text) t8 (string_bytes c.push_str-6.new.self)
    (string_bytes c.push_str-7.new.self) (unit_node it.name) it.name (unit_size p d.network u)
    (unit_tip it) (look_words (role_of p d.network u))
    c.in_ok-push_str.ensures.bytes
    (c.in_ok-push_node.ensures ∙ ap (λ (name : List ℕ). t1 ++ node (codes "unit") name) named)
    c.in_ok-push_str-2.ensures.bytes
    (c.in_ok-push_str-3.ensures.bytes ∙ ap (λ (name : List ℕ). t3 ++ name) named)
    c.in_ok-push_size.ensures
    c.in_ok-push_str-4.ensures.bytes
    (c.in_ok-push_tip.ensures ∙ ap (λ (m : OperatingUnit). t6 ++ unit_tip m) same)
    c.in_ok-push_str-5.ensures.bytes
    (c.in_ok-push_str-6.ensures.bytes
    ∙ ap (λ (t : List ℕ). t8 ++ t)
    (c.look.ensures ∙ ap (λ (r : Role). look_words r) c.role_of.ensures))
    c.in_ok-push_str-7.ensures.bytes
