use Rattle.std.proofs.Common.{◌≡◌, ◌∙◌, ◌++◌, ◌∷◌, [], codes, string_bytes, SFits, rules, ap, List}
use Rattle.std.proofs.Common.{ℕ, arith}
use Rattle.std.specs.Int.{w128}
use Rattle.std.proofs.lemmas.Int.{to_z-of_z}
use Rattle.report_amounts.specs.report_rules.Graph.{cost_text, sort_words}
use Rattle.graph_text.proofs.Lines.{after_four, line_end}
use Rattle.graph_text.proofs.text.push_total_line.Goals as goal

pub returns : goal.returns
returns c =
    let p = c.args.problem.now in
    let w = c.args.network.now in
    let f : SFits w128 c.cost.result = search rules in
    let t2 = string_bytes c.push_cost.new.text in
    let t3 = string_bytes c.push_str-2.new.self in
    let told = simp to_z-of_z at c.sort_words.ensures in
    let sort : c.sort_words.result.now ≡ sort_words w.cost = told ∙ ap sort_words c.cost.ensures in
    after_four (string_bytes c.args.text.now) (string_bytes c.push_str.new.self) t2 t3
    (string_bytes c.push.new.self)
    (codes "  label=\"claimed total in one year: ") (cost_text p w) (sort_words w.cost) (10 ∷ [])
    c.in_ok-push_str.ensures.bytes c.in_ok-push_cost.ensures
    (c.in_ok-push_str-2.ensures.bytes ∙ ap (λ (t : List ℕ). t2 ++ t) sort)
    (c.in_ok-push.ensures.bytes
    ∙ ap (λ (t : List ℕ). t3 ++ t) (c.in_ok-push.ensures.ascii (omega arith)))
    ∙ ap (λ (t : List ℕ). string_bytes c.args.text.now ++ t)
    (line_end (codes "  label=\"claimed total in one year: ") (cost_text p w)
    (sort_words w.cost))
