use Rattle.std.proofs.Common.{◌≡◌, ◌∙◌, ◌++◌, ◌∷◌, [], ap, codes, arith, ℕ, List, string_bytes}
use Rattle.std.proofs.Common.{unsigned_abs, SFits, rules}
use Rattle.std.specs.Int.{w128}
use Rattle.std.proofs.lemmas.Int.{to_z-of_z}
use Rattle.report_amounts.specs.report_rules.Drawn.{flow_text}
use Rattle.graph_text.proofs.Lines.{after_three}
use Rattle.graph_text.proofs.arcs.push_label.Goals as goal

pub returns : goal.returns
returns c =
    let f : SFits w128 c.args.flow = search rules in
    let g : SFits w128 c.args.d = search rules in
    let t2 = string_bytes c.push_flow.new.text in
    let told = simp to_z-of_z at c.in_ok-push_flow.ensures in
    after_three (string_bytes c.args.text.now) (string_bytes c.push_str.new.self) t2
    (string_bytes c.push.new.self) (codes ", label=\" ")
    (flow_text c.args.flow (unsigned_abs c.args.d)) (34 ∷ [])
    c.in_ok-push_str.ensures.bytes told
    (c.in_ok-push.ensures.bytes
    ∙ ap (λ (l : List ℕ). t2 ++ l) (c.in_ok-push.ensures.ascii (omega arith)))
