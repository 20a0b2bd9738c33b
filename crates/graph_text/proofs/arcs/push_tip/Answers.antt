use Rattle.std.proofs.Common.{◌≡◌, ◌∙◌, ◌++◌, ◌∷◌, [], ap, codes, arith, ℕ, List, string_bytes}
use Rattle.std.proofs.Common.{SFits, rules}
use Rattle.std.specs.Int.{w64}
use Rattle.std.proofs.lemmas.Int.{to_z-of_z}
use Rattle.report_amounts.specs.problem_rules.Problem.{Problem, Term, unit_at, material_at}
use Rattle.report_amounts.specs.report_rules.Graph.{told}
use Rattle.graph_text.proofs.Lines.{after_four}
use Rattle.graph_text.proofs.arcs.push_tip.Goals as goal

pub returns : goal.returns
returns c =
    let p = c.args.picture.now.problem in
    let u = c.args.u in
    let t = c.args.term.now in
    let old = string_bytes c.args.text.now in
    let t1 = string_bytes c.push_str.new.self in
    let t2 = string_bytes c.push_told.new.text in
    let t3 = string_bytes c.push.new.self in
    let is = c.term.view_is in
    let f : SFits w64 c.term.inside.rate = search rules in
    let rate = simp to_z-of_z at c.in_ok-push_told.ensures in
    after_four old t1 t2 t3 (string_bytes c.push_str-2.new.self) (unit_at p u).name
    (told (codes ": ") t.rate) (32 ∷ []) (material_at p t.material).name
    (c.in_ok-push_str.ensures.bytes
    ∙ ap (λ (name : List ℕ). old ++ name)
    (c.unit_name.ensures ∙ ap (λ (p : Problem). (unit_at p u).name) c.problem.ensures.same))
    (rate ∙ ap (λ (x : Term). t1 ++ told (codes ": ") x.rate) is)
    (c.in_ok-push.ensures.bytes
    ∙ ap (λ (l : List ℕ). t2 ++ l) (c.in_ok-push.ensures.ascii (omega arith)))
    (c.in_ok-push_str-2.ensures.bytes ∙ ap (λ (name : List ℕ). t3 ++ name) (c.material_name.ensures
    ∙ ap (λ (p : Problem). (material_at p c.term.inside.material).name) c.problem-2.ensures.same
    ∙ ap (λ (x : Term). (material_at p x.material).name) is))
