use Rattle.std.proofs.Common.{◌≡◌, ◌++◌, ◌∙◌, [], ap, codes, ℕ, List, string_bytes}
use Rattle.std.specs.Prelude.{decimal}
use Rattle.report_amounts.specs.report_rules.Ranked.{change_cell}
use Rattle.report_amounts.specs.report_rules.Graph.{cost_words, change_words, listed_words}
use Rattle.graph_text.proofs.Lines.{after_four}
use Rattle.graph_text.proofs.list.listed_words.Goals as goal

pub returns : goal.returns
returns c =
    let p = c.args.problem.now in
    let first = c.args.first.now in
    let w = c.args.network.now in
    let t0 = string_bytes c.new-words.result in
    let t3 = string_bytes c.push_costs.new.text in
    let change : c.deref.result.now ≡ change_cell p first w =
    c.deref.ensures ∙ c.in_ok-change.ensures in
    after_four t0 (string_bytes c.write.new.self) (string_bytes c.push_str.new.self) t3
    (string_bytes c.push_change.new.text) (decimal c.args.place) (codes ": ")
    (cost_words p first w) (change_words (change_cell p first w)) c.in_ok-write.ensures.bytes
    c.in_ok-push_str.ensures.bytes c.in_ok-push_costs.ensures
    (c.in_ok-push_change.ensures ∙ ap (λ (t : List ℕ). t3 ++ change_words t) change)
    ∙ ap (λ (t : List ℕ). t ++ listed_words p first c.args.place w) c.new-words.ensures.bytes
