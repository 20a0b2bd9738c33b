use Rattle.std.proofs.Common.{◌≡◌, ◌+◌, ◌++◌, ◌∙◌, ap, arith, ℕ, List, string_bytes}
use Rattle.report_amounts.specs.report_rules.Graph.{listed_words}
use Rattle.graph_text.proofs.Listed.{next_listed}
use Rattle.graph_text.proofs.list.push_listed.Goals as goal

pub listing-preserved : goal.listing-preserved
listing-preserved c =
    let p = c.args.problem.now in
    let first = c.args.first.now in
    let w = c.index-networks-i.result in
    let t1 = string_bytes c.push_label_line.new.text in
    let words : c.deref.result.now ≡ listed_words p first (c.listing.i + 1) w =
    c.deref.ensures ∙ c.in_ok-words.ensures
    ∙ ap (λ (n : ℕ). listed_words p first n w) c.place_of.ensures in
    next_listed p first c.args.networks.now c.listing.i w c.deref.result.now
    (string_bytes c.listing.text) t1 (string_bytes c.push.new.self) _ c.listing-test.true
    c.index-networks-i.is words c.in_ok-push_label_line.ensures
    (c.in_ok-push.ensures.bytes
    ∙ ap (λ (l : List ℕ). t1 ++ l) (c.in_ok-push.ensures.ascii (omega arith)))
    c.listing.invariant
