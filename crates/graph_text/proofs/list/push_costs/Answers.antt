use Rattle.std.proofs.Common.{◌≡◌, ◌++◌, ◌∙◌, ap, codes, ℕ, List, string_bytes}
use Rattle.report_amounts.specs.report_rules.Number.{Number, number_text}
use Rattle.report_amounts.specs.report_rules.Ranked.{above_first}
use Rattle.report_amounts.specs.report_rules.Graph.{cost_text}
use Rattle.graph_text.proofs.Lines.{after_three}
use Rattle.graph_text.proofs.list.push_costs.Goals as goal

pub returns : goal.returns
returns c =
    let p = c.args.problem.now in
    let first = c.args.first.now in
    let w = c.args.network.now in
    let t2 = string_bytes c.push_str.new.self in
    after_three (string_bytes c.args.text.now) (string_bytes c.push_cost.new.text) t2
    (string_bytes c.push.new.text) (cost_text p w) (codes ", ")
    (number_text (above_first p first w)) c.in_ok-push_cost.ensures c.in_ok-push_str.ensures.bytes
    (c.in_ok-push.ensures ∙ ap (λ (n : Number). t2 ++ number_text n) c.above_first.ensures)
